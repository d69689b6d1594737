-- `sound::bad_read`. No boundary passed has a cell that no calls could leave.
use lib.ListN.{length}
use Rattle.book.specs.Cells.{read_fault_at, reads_of}
use Rattle.rules.specs.Lent.{cells_in}
use Rattle.book.proofs.Passed.{Passed}
use Rattle.book.proofs.sound.bad_read.Given as goal

abbrev pub invariant-loop-i : goal.invariant-loop-i
invariant-loop-i l = Passed (read_fault_at (reads_of (cells_in l.cells))) (length l.cells.readings.now) l.i
