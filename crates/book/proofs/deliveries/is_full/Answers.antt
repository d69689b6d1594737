-- `deliveries::is_full`: of a slot that has come nothing is asked.
use borrow.Author.Tests.{eq-eqb, ne_eqb}
use Rattle.book.specs.Filling.{is_full}
use Rattle.book.proofs.deliveries.is_full.Goals as goal

pub returns-then-version-ne0 : goal.returns-then-version-ne0
unfolding is_full
returns-then-version-ne0 c = rw (ne_eqb _ _ c.if-version-ne0.true)

pub returns : goal.returns
unfolding is_full
returns c = rw (eq-eqb _ _ c.if-version-ne0.false, c.slots_per_day.ensures)
