-- `headers::put_200` meets its contract.
use Rattle.market.specs.Fields.{field, fields, lent}
use Rattle.base.specs.Text.{ascii}
use Rattle.market.specs.Records.{record200}
use Rattle.line.proofs.Putting.{then, same}
use Rattle.market.proofs.Joining.{meter_parts}
use Rattle.market.proofs.headers.put_200.Goals as goal

pub returns : goal.returns
unfolding record200 fields
returns c =
    let t = lent c.args.texts.now in
    same (meter_parts (ascii "200") (field t.identifier) (field t.configuration) (field t.register) (field t.suffix) _)
    (then c.put_meter-meter.ensures
    (then c.put_field-streamed.ensures
    (then c.put_field-numbered.ensures
    (then c.put_text-unit.ensures
    (then c.put_number-length.ensures (then c.put_field-read.ensures c.put_text.ensures))))))
