-- `held::hold`: the boundaries with a reading on both sides, or no span.
use mathlib.Core.Option.{none, some}
use mathlib.Core.Path.{◌≡◌, sym, ap, ◌∙◌}
use Prim.Native.Nat.{◌+◌, ◌-◌, ◌/◌}
use native.Mathlib.Omega.{arith}
use Rattle.rules.specs.Opening.{slots_per_day}
use Rattle.rules.specs.Spans.{last_read, next_read}
use Rattle.rules.specs.declared.stretch.Stretch.{Stretch}
use Rattle.rules.specs.Lent.{cells_in}
use Rattle.rules.specs.Inner.Stretches.{next_meant}
use Rattle.rules.proofs.Bounds.{bounded}
use Rattle.rules.proofs.Stretches.{next_behind}
use Rattle.explain.proofs.Holding.{between_read, outside_first, outside_last, inside_both}
use Rattle.explain.proofs.held.hold.Goals as goal
use Rattle.explain.proofs.held.hold.Goals.{In-Some, In-Some-next_read}

first_found : (c : In-Some) → last_read c.args.cells.now.read_versions.now (c.args.slot / slots_per_day c.args.head) ≡ some c.in-Some.first
first_found c = simp c.slots_per_day.ensures at (sym c.last_read.ensures ∙ ap next_meant c.in-Some.is)

last_found : (c : In-Some-next_read) → let d = c.args.slot / slots_per_day c.args.head in
    next_read c.args.cells.now.read_versions.now (d + 1) (c.args.head.days - d) ≡ some c.in-Some-next_read.last
last_found c =
    next_behind c.args.head _ _ (some c.in-Some-next_read.last) c.requires.0.read_versions
    (simp c.slots_per_day.ensures at (sym c.next_read.ensures ∙ ap next_meant c.in-Some-next_read.is))

pub nonzero_div-day : goal.nonzero_div-day
nonzero_div-day c =
    rw c.slots_per_day.ensures
    (omega (arith, (bounded c.args.head c.requires.0.lent.fitted.head).day_low))

pub returns-in_default : goal.returns-in_default
returns-in_default c =
    let a = c.args in
    let e : last_read a.cells.now.read_versions.now (a.slot / slots_per_day a.head) ≡ none =
    rw c.slots_per_day.ensures at
    (sym c.last_read.ensures ∙ ap next_meant c.in_default.is) in
    let o = outside_first a.head (cells_in a.cells.now) a.slot e in
    (c.outside.ensures.0 ∙ o.0, c.outside.ensures.1 ∙ o.1)

pub returns-in_default-next_read : goal.returns-in_default-next_read
returns-in_default-next_read c =
    let a = c.args in
    let d = a.slot / slots_per_day a.head in
    let f : next_read a.cells.now.read_versions.now (d + 1) (a.head.days - d) ≡ none =
    next_behind a.head _ d none c.requires.0.read_versions
    (rw c.slots_per_day.ensures at
    (sym c.next_read.ensures ∙ ap next_meant c.in_default-next_read.is)) in
    let o = outside_last a.head (cells_in a.cells.now) a.slot _ (first_found (goal.at.returns-in_default-next_read c).In-Some) f in
    (c.outside-in_default-next_read.ensures.0 ∙ o.0, c.outside-in_default-next_read.ensures.1 ∙ o.1)

pub between-requires : goal.between-requires
between-requires c =
    let a = c.args in
    let w = c.requires.0 in (
      w.lent,
      w.dialled,
      w.settled,
      w.widths,
      between_read a.head (bounded a.head w.lent.fitted.head) _ a.slot _ _
          (first_found (goal.at.between-requires c).In-Some)
          (last_found (goal.at.between-requires c).In-Some-next_read),
    )

pub returns : goal.returns
returns c =
    let a = c.args in
    let o = inside_both a.head (cells_in a.cells.now) a.slot _ _ (first_found (goal.at.returns c).In-Some)
    (last_found (goal.at.returns c).In-Some-next_read) in
    (c.between.ensures.0 ∙ o.0, c.between.ensures.1 ∙ ap (λ (x : Stretch). x.by) o.1)
