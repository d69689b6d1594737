-- `deliveries::digits_at`: the digits so far and their value; nine of them at most.
use Rattle.text_log.proofs.OnePass.{Few}
use Rattle.text_log.proofs.deliveries.digits_at.Given as goal

abbrev pub invariant-loop-end : goal.invariant-loop-end
invariant-loop-end l = Few l.bytes l.from l.value l.end
