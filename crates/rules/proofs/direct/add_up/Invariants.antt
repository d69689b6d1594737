-- `direct::add_up`. Before each slot the sum is that of the direct slots so far.
use Rattle.rules.specs.Lent.{slots_in, agreed_in}
use Rattle.rules.proofs.Directs.{Summed}
use Rattle.rules.proofs.direct.add_up.Given as goal

abbrev pub invariant-loop-at : goal.invariant-loop-at
invariant-loop-at l = Summed l.head (slots_in l.slots) (agreed_in l.agreed) l.from l.to l.sum
    l.outage l.at
