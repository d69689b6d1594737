-- `sound::bad_count`. No day passed has a count that differs from the number of its delivered slots.
use lib.ListN.{length}
use Rattle.book.specs.Cells.{count_fault_at}
use Rattle.book.proofs.Passed.{Passed}
use Rattle.book.proofs.sound.bad_count.Given as goal

abbrev pub invariant-loop-day : goal.invariant-loop-day
invariant-loop-day l = Passed (count_fault_at l.head l.versions l.counts) (length l.counts) l.day
