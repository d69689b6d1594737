-- `days::put_values`: the values so far are added.
use Rattle.file.specs.Reader.{slot_at}
use Rattle.market.specs.Fields.{field, kwh, joined}
use Rattle.line.specs.Inner.Writing.{Added}
use Rattle.market.proofs.days.put_values.Given as goal

abbrev pub invariant-loop-i : goal.invariant-loop-i
invariant-loop-i l = Added l.initial.out l.at l.out l.next (joined (λ x. field (kwh (slot_at l.file x).value)) l.a l.i)
