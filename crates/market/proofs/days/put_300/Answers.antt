-- `days::put_300` meets its contract.
use Rattle.market.specs.Fields.{fields}
use Rattle.market.specs.Records.{record300}
use Rattle.line.proofs.Putting.{then}
use Rattle.market.proofs.days.put_300.Goals as goal

pub returns : goal.returns
unfolding record300 fields
returns c =
    then c.put_text-code.ensures
    (then c.put_date-date.ensures
    (then c.put_values-values.ensures
    (then c.put_mark-quality.ensures (then c.put_field-time.ensures c.put_text.ensures))))
