-- `slots_a_day`: an interval's length is in bounds.
use mathlib.Core.Path.{sym, ◌∙◌}
use native.Mathlib.Omega.{arith}
use Rattle.rules.proofs.Bounds.{interval_bounds}
use Rattle.strips.proofs.slots_a_day.Goals as goal

pub nonzero_div-n : goal.nonzero_div-n
nonzero_div-n c = omega (arith, interval_bounds _ (sym c.before.is_interval.ensures ∙ c.if-not-is_interval.false))

pub overflow_cast-n : goal.overflow_cast-n
overflow_cast-n c = omega (arith, interval_bounds _ (sym c.is_interval.ensures ∙ c.if-not-is_interval.false))

pub fit-requires : goal.fit-requires
fit-requires c = omega (arith, interval_bounds _ (sym c.is_interval.ensures ∙ c.if-not-is_interval.false))
