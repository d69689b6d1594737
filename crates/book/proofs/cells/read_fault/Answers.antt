-- `cells::read_fault` is `read_fault`: of the reading, then of the width.
use mathlib.Core.Path.{sym, ◌∙◌}
use Rattle.book.specs.Cells.{read_fault}
use Rattle.book.proofs.cells.read_fault.Goals as goal

pub returns-then-number_fault : goal.returns-then-number_fault
unfolding read_fault
returns-then-number_fault c = rw (sym c.number_fault.ensures ∙ c.if-number_fault.true)

pub returns : goal.returns
unfolding read_fault
returns c = rw (sym c.number_fault.ensures ∙ c.if-number_fault.false) c.number_fault-2.ensures
