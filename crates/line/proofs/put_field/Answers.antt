-- `line::put_field` meets its contract.
use Rattle.line.specs.Line.{field}
use Rattle.line.proofs.Putting.{then}
use Rattle.line.proofs.put_field.Goals as goal

pub returns : goal.returns
unfolding field
returns c = then c.put_text-from.ensures c.put_decimal.ensures
