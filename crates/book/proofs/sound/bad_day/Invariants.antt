-- `sound::bad_day`. No day passed has a cell that no calls could leave.
use lib.ListN.{length}
use Rattle.book.specs.Cells.{day_fault_at}
use Rattle.book.proofs.Passed.{Passed}
use Rattle.book.proofs.sound.bad_day.Given as goal

abbrev pub invariant-loop-day : goal.invariant-loop-day
invariant-loop-day l = Passed (day_fault_at l.holidays) (length l.holidays) l.day-index
