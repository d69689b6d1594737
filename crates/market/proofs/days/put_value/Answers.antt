-- `days::put_value` meets its contract.
use mathlib.Core.Path.{ap}
use Rattle.file.proofs.Offsets.{slot_at_lem}
use Rattle.market.specs.Fields.{field, kwh}
use Rattle.line.proofs.Putting.{then, same}
use Rattle.market.proofs.days.put_value.Goals as goal

pub returns : goal.returns
unfolding kwh
returns c =
    rw (slot_at_lem _ _) (same (ap (λ v. field (kwh v)) c.number-value.ensures.0)
    (then c.put_number-whole.ensures
    (then c.put_text-point.ensures c.put_digits.ensures)))
