-- `line::put_refusal` meets its contract.
use mathlib.Core.Path.{ap}
use Rattle.line.specs.Line.{field}
use Rattle.line.proofs.Putting.{then, same}
use Rattle.line.proofs.put_refusal.Goals as goal

pub returns : goal.returns
returns c =
    then (then c.put_text-word.ensures (same (ap field c.number.ensures) c.put_field-end.ensures)) c.put_text.ensures
