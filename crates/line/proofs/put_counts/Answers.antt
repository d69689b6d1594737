-- `line::put_counts` meets its contract.
use Rattle.line.proofs.Putting.{then}
use Rattle.line.proofs.put_counts.Goals as goal

pub returns : goal.returns
returns c =
    let put-field = c.put_field-actual in
    let put-field2 = c.put_field-substituted in
    let put-field3 = c.put_field in
    then (then put-field.ensures put-field2.ensures) put-field3.ensures
