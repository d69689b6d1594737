-- `deliveries::raised`: a day that is not full has room for one more.
use native.Mathlib.Omega.{arith}
use borrow.Author.Tests.{eq-eqb, ne_eqb}
use Rattle.rules.proofs.Bounds.{bounded}
use Rattle.book.proofs.Counting.{room}
use Rattle.book.proofs.deliveries.raised.Goals as goal

pub overflow_add-result : goal.overflow_add-result
overflow_add-result c = omega (arith, room c.args.head (bounded _ c.requires.0) _ _ c.requires.1 c.if-version-eq0.true)

pub returns-then-version-eq0 : goal.returns-then-version-eq0
returns-then-version-eq0 c = rw (eq-eqb _ _ c.if-version-eq0.true)

pub returns : goal.returns
returns c = rw (ne_eqb _ _ c.if-version-eq0.false)
