-- `reading::find_opening`: no line so far is the opening, and none is wrong.
use Prim.Native.Nat.{◌-◌}
use lib.ListN.{length}
use Rattle.text_log.specs.Log.{table_of}
use Rattle.play.proofs.Stepping.{Leading}
use Rattle.play.proofs.reading.find_opening.Given as goal

abbrev pub invariant-loop-at : goal.invariant-loop-at
invariant-loop-at l = Leading l.log (table_of l.table) l.at l.n

abbrev pub decreases-loop-at : goal.decreases-loop-at
decreases-loop-at l = length l.log - l.at
