-- `filing::against_day`: 11, else stored the first time, then repeat.
use mathlib.Core.Path.{sym, ◌∙◌}
use borrow.Author.Tests.{eq-eqb, ne_eqb}
use Rattle.book.specs.Filling.{against_day}
use Rattle.book.proofs.filing.against_day.Goals as goal

pub returns-then-day_fault : goal.returns-then-day_fault
unfolding against_day
returns-then-day_fault c = simp (sym c.day_fault.ensures ∙ c.if-day_fault.true)

pub returns-then-cell-eq0 : goal.returns-then-cell-eq0
unfolding against_day
returns-then-cell-eq0 c = simp (sym c.day_fault.ensures ∙ c.if-day_fault.false, eq-eqb _ _ c.if-cell-eq0.true)

pub returns : goal.returns
unfolding against_day
returns c = simp (sym c.day_fault.ensures ∙ c.if-day_fault.false, ne_eqb _ _ c.if-cell-eq0.false)
