-- `tables::put_direct`. Before each slot the records of the direct slots so far are written.
use Rattle.rules.specs.Lent.{agreed_in, slots_in}
use Rattle.publishing.proofs.Records.{Ran}
use Rattle.publishing.proofs.tables.put_direct.Given as goal

abbrev pub invariant-loop-at : goal.invariant-loop-at
invariant-loop-at l = Ran l.head (slots_in l.slots) (agreed_in l.agreed) l.initial.out l.from l.to
    l.initial.totals l.outage l.totals l.out l.at
