-- `opening::is_interval` tests the three lengths.
use Rattle.std.proofs.Common.{arith}
use borrow.Author.Tests.{eq-eqb, ne_eqb}
use Rattle.rules.specs.Opening.{interval_ok}
use Rattle.rules.proofs.opening.is_interval.Goals as goal

pub returns-in-5 : goal.returns-in-5
unfolding interval_ok
returns-in-5 c = grind (arith, eq-eqb, ne_eqb)

pub returns-in_default : goal.returns-in_default
unfolding interval_ok
returns-in_default c = grind (arith, ne_eqb)
