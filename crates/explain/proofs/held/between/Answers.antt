-- `held::between`: the sums of the span's slots, and of those before the slot.
use Rattle.std.specs.Prelude.{Some}
use mathlib.Core.Path.{◌≡◌, ap, ◌∙◌}
use Prim.Native.Nat.{◌-◌, ◌*◌, ◌≤◌}
use native.Mathlib.Nat.{mul-le-mul}
use native.Mathlib.Omega.{arith}
use Rattle.rules.specs.Opening.{slots_per_day}
use Rattle.rules.specs.Spans.{start, slots_in}
use Rattle.rules.specs.Lent.{cells_in}
use Rattle.rules.specs.Inner.Summaries.{summary_of}
use Rattle.rules.proofs.Bounds.{bounded}
use Rattle.rules.proofs.Places.{slots_within}
use Rattle.explain.proofs.Holding.{between_inside, spanned_found, held_scaling, spanned_advance}
use Rattle.explain.proofs.held.between.Goals as goal

pub overflow_mul-count : goal.overflow_mul-count
overflow_mul-count c =
    let w = bounded c.args.head c.requires.0.fitted.head in
    let x = c.requires.4 in
    let p : c.args.last - c.args.first ≤ 400 = omega (arith, w.days_high, x.ordered, x.within) in
    let q : c.slots_per_day-day.result ≤ 288 = omega (arith, c.slots_per_day-day.ensures, w.day_high) in
    omega (arith, mul-le-mul p q)

pub sums-sum-requires : goal.sums-sum-requires
sums-sum-requires c =
    let a = c.args in
    let x = c.requires.4 in
    let i = between_inside a.head a.slot a.first a.last x in
    rw c.slots_per_day-day.ensures (
      c.requires.0,
      c.requires.2,
      omega (arith, i, x.from),
      slots_within a.head a.first a.last (omega (arith, x.ordered)) x.within,
    )

pub sums-before-requires : goal.sums-before-requires
sums-before-requires c =
    let a = c.args in
    let x = c.requires.4 in
    let i = between_inside a.head a.slot a.first a.last x in
    rw c.slots_per_day-day.ensures (c.requires.0, c.requires.2, omega (arith, i, x.from), omega (arith, i, x.from))

pub spanned-span-requires : goal.spanned-span-requires
spanned-span-requires c =
    let w = bounded c.args.head c.requires.0.fitted.head in
    let x = c.requires.4 in
    (c.requires.1, c.requires.3, omega (arith, x.ordered, x.within), x.within, w.days_high)

pub scaling_with-requires : goal.scaling_with-requires
scaling_with-requires c =
    let a = c.args in
    spanned_advance a.head a.cells.now.readings.now a.cells.now.widths.now a.first a.last c.sums-sum.result
    c.spanned-span.result c.spanned-span.ensures

pub returns : goal.returns
unfolding start slots_in
returns c =
    let a = c.args in
    let n = c.slots_per_day-day.ensures in
    let b = cells_in a.cells.now in
    let m : c.sums-sum.result
    ≡ summary_of a.head b.slots b.agreed b.holidays (a.first * slots_per_day a.head)
    ((a.last - a.first) * slots_per_day a.head) =
    rw n at c.sums-sum.ensures in
    let q : c.sums-before.result
    ≡ summary_of a.head b.slots b.agreed b.holidays (a.first * slots_per_day a.head)
    (a.slot - a.first * slots_per_day a.head) =
    rw n at c.sums-before.ensures in (
      ap Some c.spanned-span.ensures ∙ spanned_found a.head b a.first a.last c.sums-sum.result m,
      c.scaling_with.ensures
          ∙ held_scaling a.head b a.first a.last c.sums-sum.result m a.slot
          c.sums-before.result q c.spanned-span.result c.spanned-span.ensures,
    )
