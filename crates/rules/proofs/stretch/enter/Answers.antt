-- `stretch::enter`: the carried stretch goes on, or the next one begins here.
use mathlib.Core.Option.{none, some}
use mathlib.Core.Path.{◌≡◌, sym, ap, ◌∙◌}
use Prim.Native.Nat.{◌+◌, ◌-◌, ◌/◌}
use native.Mathlib.Omega.{arith}
use Rattle.rules.specs.declared.stretch.Stretch.{Stretch}
use Rattle.rules.specs.Opening.{slots_per_day}
use Rattle.rules.specs.Spans.{next_read}
use Rattle.rules.specs.Lent.{cells_in}
use Rattle.rules.specs.Inner.Stretches.{next_meant}
use Rattle.rules.proofs.Bounds.{bounded, day_below}
use Rattle.rules.proofs.Boundaries.{next_tells}
use Rattle.rules.proofs.Stretches.{carried_on, carried_ends, begins_some, begins_none, stretch_some, stretch_none, next_behind}
use Rattle.rules.proofs.stretch.enter.Goals as goal

pub returns-then-at-carried : goal.returns-then-at-carried
returns-then-at-carried c =
    let a = c.args in
    let w = bounded a.head c.requires.0.lent.fitted.head in
    let b = cells_in a.cells.now in
    let k = carried_on a.head w b a.walk.at c.requires.1.inside
    (λ z. c.if-at-carried.true (z ∙ ap (λ (s : Stretch). s.until) (sym c.requires.1.stretch))) in
    (c.no_span.ensures.0 ∙ sym k.0, c.no_span.ensures.1 ∙ c.requires.1.stretch ∙ k.1)

pub nonzero_div-day : goal.nonzero_div-day
nonzero_div-day c =
    let w = bounded c.args.head c.requires.0.lent.fitted.head in
    omega (arith, c.slots_per_day.ensures, w.day_low)

pub overflow_add-day : goal.overflow_add-day
overflow_add-day c =
    let a = c.args in
    let w = bounded a.head c.requires.0.lent.fitted.head in
    rw c.slots_per_day.ensures (omega (arith, w.days_high, day_below a.head w a.walk.at c.requires.1.inside))

pub next_read-requires : goal.next_read-requires
next_read-requires c =
    let a = c.args in
    let w = bounded a.head c.requires.0.lent.fitted.head in
    rw (c.slots_per_day.ensures, c.requires.0.read_versions) (omega (arith, day_below a.head w a.walk.at c.requires.1.inside))

pub reach-requires : goal.reach-requires
reach-requires c =
    let a = c.args in
    let w = bounded a.head c.requires.0.lent.fitted.head in
    let b = cells_in a.cells.now in
    let d = a.walk.at / slots_per_day a.head in
    let last = c.in-Some.last in
    let e : next_read a.cells.now.read_versions.now (d + 1) (a.head.days - d) ≡ some last =
    next_behind a.head a.cells.now.read_versions.now d (some last) c.requires.0.read_versions
    (rw c.slots_per_day.ensures at
    (sym c.next_read.ensures ∙ ap next_meant c.in-Some.is)) in
    let t = next_tells a.cells.now.read_versions.now (a.head.days - d) (d + 1) last e in
    let k = carried_ends a.head w b a.walk.at c.requires.1.inside
    (c.if-at-carried.false ∙ ap (λ (s : Stretch). s.until) c.requires.1.stretch) in
    let y = day_below a.head w a.walk.at c.requires.1.inside in
    rw c.slots_per_day.ensures (
      c.requires.0,
      record { ordered = omega (arith, t.low); within = omega (arith, t.high, y); known = c.requires.1.known; at_first = k.0 },
    )

pub returns-in-Some : goal.returns-in-Some
returns-in-Some c =
    let a = c.args in
    let w = bounded a.head c.requires.0.lent.fitted.head in
    let b = cells_in a.cells.now in
    let d = a.walk.at / slots_per_day a.head in
    let last = c.in-Some.last in
    let e : next_read a.cells.now.read_versions.now (d + 1) (a.head.days - d) ≡ some last =
    next_behind a.head a.cells.now.read_versions.now d (some last) c.requires.0.read_versions
    (simp c.slots_per_day.ensures at
    (sym c.next_read.ensures ∙ ap next_meant c.in-Some.is)) in
    let k = carried_ends a.head w b a.walk.at c.requires.1.inside
    (c.if-at-carried.false ∙ ap (λ (s : Stretch). s.until) c.requires.1.stretch) in
    let r = rw c.slots_per_day.ensures at c.reach.ensures in
    (r.0 ∙ begins_some a.head w b a.walk.at k.0 last e, r.1 ∙ stretch_some a.head w b a.walk.at last k.1 e)

pub returns-in-None : goal.returns-in-None
returns-in-None c =
    let a = c.args in
    let w = bounded a.head c.requires.0.lent.fitted.head in
    let b = cells_in a.cells.now in
    let d = a.walk.at / slots_per_day a.head in
    let e : next_read a.cells.now.read_versions.now (d + 1) (a.head.days - d) ≡ none =
    next_behind a.head a.cells.now.read_versions.now d none c.requires.0.read_versions
    (simp c.slots_per_day.ensures at
    (sym c.next_read.ensures ∙ ap next_meant c.in-None.is)) in
    let k = carried_ends a.head w b a.walk.at c.requires.1.inside
    (c.if-at-carried.false ∙ ap (λ (s : Stretch). s.until) c.requires.1.stretch) in (
      c.no_span-in-None.ensures.0 ∙ sym (begins_none a.head w b a.walk.at k.0 e),
      c.no_span-in-None.ensures.1 ∙ c.unscaled_to.ensures
          ∙ (rw c.slot_count.ensures (sym (stretch_none a.head w b a.walk.at e))),
    )
