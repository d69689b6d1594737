-- `days::put_400` meets its contract.
use Rattle.market.specs.Fields.{fields}
use Rattle.market.specs.Records.{record400}
use Rattle.line.proofs.Putting.{then}
use Rattle.market.proofs.days.put_400.Goals as goal

pub returns : goal.returns
unfolding record400 fields
returns c =
    then c.put_text-code.ensures
    (then c.put_number-first.ensures
    (then c.put_number-last.ensures (then c.put_mark-quality.ensures c.put_text.ensures)))
