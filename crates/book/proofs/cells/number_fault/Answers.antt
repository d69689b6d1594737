-- `cells::number_fault` is `number_fault`, one test a return.
use borrow.Author.Tests.{lt-ltb, le-ltb, eq-eqb, ne_eqb}
use Rattle.book.specs.Cells.{number_fault}
use Rattle.book.proofs.cells.number_fault.Goals as goal

pub returns-then-limit-number : goal.returns-then-limit-number
unfolding number_fault
returns-then-limit-number c = simp (lt-ltb _ _ c.if-limit-number.true)

pub returns-then-version-ne0 : goal.returns-then-version-ne0
unfolding number_fault
returns-then-version-ne0 c = simp (le-ltb _ _ c.if-limit-number.false, ne_eqb _ _ c.if-version-ne0.true)

pub returns : goal.returns
unfolding number_fault
returns c = simp (le-ltb _ _ c.if-limit-number.false, eq-eqb _ _ c.if-version-ne0.false)
