-- `headers::put_meter` meets its contract.
use Rattle.line.proofs.Putting.{then}
use Rattle.market.proofs.headers.put_meter.Goals as goal

pub returns : goal.returns
returns c =
    then c.put_text-code.ensures
    (then c.put_field-meter.ensures
    (then c.put_field-configured.ensures (then c.put_field-registered.ensures c.put_field.ensures)))
