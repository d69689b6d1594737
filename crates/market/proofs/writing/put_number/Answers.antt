-- `writing::put_number` meets its contract.
use Rattle.line.proofs.Putting.{then}
use Rattle.market.proofs.writing.put_number.Goals as goal

pub returns : goal.returns
returns c = then c.put_text-next.ensures c.put_decimal.ensures
