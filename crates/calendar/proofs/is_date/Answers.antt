-- `is_date`: a day up to 28 is within its month.
use Prim.Native.Nat.{◌≤◌}
use native.Mathlib.Omega.{arith}
use borrow.Author.Rules.{rules}
use Rattle.calendar.specs.Calendar.{month_length, is_date}
use Rattle.calendar.proofs.Closed.{at_least_28}
use Rattle.calendar.proofs.is_date.Goals as goal

pub returns-then-day-le-SHORTEST_MONTH : goal.returns-then-day-le-SHORTEST_MONTH
unfolding is_date
returns-then-day-le-SHORTEST_MONTH c =
    let a = c.args in
    let within : a.day ≤ month_length a.year a.month = omega (arith, at_least_28 a.year a.month (grind arith)) in
    search rules
