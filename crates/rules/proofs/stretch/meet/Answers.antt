-- `stretch::meet`: the sums of the span's slots give its outcome and its scaling.
use mathlib.Core.Path.{◌≡◌, ◌∙◌}
use Prim.Native.Nat.{◌-◌, ◌*◌, ◌≤◌}
use native.Mathlib.Nat.{mul-le-mul}
use native.Mathlib.Omega.{arith}
use Rattle.rules.specs.Opening.{slots_per_day}
use Rattle.rules.specs.Spans.{start, slots_in as span_length}
use Rattle.rules.specs.Lent.{cells_in}
use Rattle.rules.specs.Inner.Summaries.{summary_of}
use Rattle.rules.proofs.Bounds.{bounded}
use Rattle.rules.proofs.Places.{slots_within}
use Rattle.rules.proofs.SpanSums.{compared_advance, meet_span, meet_stretch}
use Rattle.rules.proofs.stretch.meet.Goals as goal

pub overflow_mul-last : goal.overflow_mul-last
overflow_mul-last c =
    let b = bounded c.args.head c.requires.0.fitted.head in
    let w = c.requires.3 in
    let p : c.args.last - c.args.first ≤ 400 = omega arith in
    let q : c.slots_per_day-day.result ≤ 288 = omega (arith, c.slots_per_day-day.ensures) in
    omega (arith, mul-le-mul p q)

pub summarise-sum-requires : goal.summarise-sum-requires
summarise-sum-requires c =
    let a = c.args in
    let w = c.requires.3 in
    let e = c.slots_per_day-day.ensures in
    (c.requires.0, c.requires.2, rw (e, w.at_first) (slots_within a.head a.first a.last (omega arith) w.within), w.known)

pub compare-found-requires : goal.compare-found-requires
compare-found-requires c =
    let b = bounded c.args.head c.requires.0.fitted.head in
    let w = c.requires.3 in
    (c.requires.1, c.requires.4, omega (arith, w.within, w.ordered), w.within, b.days_high)

pub overflow_mul-last-2 : goal.overflow_mul-last-2
overflow_mul-last-2 c =
    let b = bounded c.args.head c.requires.0.fitted.head in
    let w = c.requires.3 in
    let p : c.args.last ≤ 400 = omega (arith, b.days_high, w.within) in
    let q : c.slots_per_day-day.result ≤ 288 =
    omega (arith, c.slots_per_day-day.ensures, b.day_high) in
    omega (arith, mul-le-mul p q)

pub stretch_by-requires : goal.stretch_by-requires
stretch_by-requires c = compared_advance _ _ _ _ _ _ _ c.compare-found.ensures

pub returns : goal.returns
unfolding start span_length
returns c =
    let a = c.args in
    let w = c.requires.3 in
    let e = c.slots_per_day-day.ensures in
    let b = cells_in a.cells.now in
    let m = c.summarise-sum.result in
    let s : m ≡ summary_of a.head b.slots b.agreed b.holidays (a.first * slots_per_day a.head)
    ((a.last - a.first) * slots_per_day a.head) = c.summarise-sum.ensures ∙ (simp (e, w.at_first)) in
    let f = c.compare-found.ensures in (
      meet_span a.head b a.first a.last m s _ f,
      c.stretch_by.ensures ∙ (simp (e, w.at_first) (meet_stretch a.head b a.first a.last m s _ f)),
    )
