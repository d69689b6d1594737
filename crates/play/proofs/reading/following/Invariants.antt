-- `reading::following`: each line after the opening so far is a call or passed over.
use Prim.Native.Nat.{◌-◌}
use lib.ListN.{length}
use Rattle.play.proofs.Stepping.{Following}
use Rattle.play.proofs.reading.following.Given as goal

abbrev pub invariant-loop-at : goal.invariant-loop-at
invariant-loop-at l = Following l.log l.head l.fn.opening.at l.fn.opening.lines l.at l.lines l.calls

abbrev pub decreases-loop-at : goal.decreases-loop-at
decreases-loop-at l = length l.log - l.at
