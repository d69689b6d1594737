-- `limits::table_ok` tests in the order of the specification.
use mathlib.Core.Bool.{and-true}
use borrow.Author.Tests.{le-leb, lt-leb}
use Rattle.rules.specs.Limits.{table_ok}
use Rattle.rules.proofs.limits.table_ok.Goals as goal

pub returns-then-table-lt1 : goal.returns-then-table-lt1
unfolding table_ok
returns-then-table-lt1 c = simp (lt-leb _ _ c.if-table-lt1.true)

pub returns-then-table-gt24 : goal.returns-then-table-gt24
unfolding table_ok
returns-then-table-gt24 c = simp (le-leb _ _ c.if-table-lt1.false, lt-leb _ _ c.if-table-gt24.true)

pub returns : goal.returns
unfolding table_ok
returns c = simp (le-leb _ _ c.if-table-lt1.false, le-leb _ _ c.if-table-gt24.false, c.is_rising.ensures, and-true)
