-- `stretch::reach`: a span begins where its first boundary has a reading.
use mathlib.Core.Path.{ap, ◌∙◌}
use Rattle.std.specs.Prelude.{Some}
use Prim.Native.Nat.{◌≤◌}
use native.Mathlib.Nat.{mul-le-mul}
use native.Mathlib.Omega.{arith}
use Rattle.rules.specs.Inner.Stretches.{begins_with, stretch_from}
use Rattle.rules.proofs.Bounds.{bounded}
use Rattle.rules.proofs.Stretches.{is_read_lem, unread}
use Rattle.rules.proofs.stretch.reach.Goals as goal

pub overflow_mul-last : goal.overflow_mul-last
overflow_mul-last c =
    let b = bounded c.args.head c.requires.0.lent.fitted.head in
    let p : c.args.last ≤ 400 = omega (arith, b.days_high, c.requires.1.within) in
    let q : c.slots_per_day.result ≤ 288 = omega (arith, c.slots_per_day.ensures, b.day_high) in
    omega (arith, mul-le-mul p q)

pub returns-then-cells-day-eq0 : goal.returns-then-cells-day-eq0
unfolding begins_with stretch_from
returns-then-cells-day-eq0 c =
    rw (unread c.args.cells.now.read_versions.now c.args.day c.if-cells-day-eq0.true)
    (c.no_span.ensures.0, c.no_span.ensures.1 ∙ c.unscaled_to.ensures ∙ (rw c.slots_per_day.ensures))

pub returns : goal.returns
unfolding begins_with stretch_from
returns c =
    rw (is_read_lem c.args.cells.now.read_versions.now c.args.day c.if-cells-day-eq0.false)
    (ap Some c.meet-met.ensures.0, c.meet-met.ensures.1)
