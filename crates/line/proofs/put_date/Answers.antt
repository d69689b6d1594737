-- `line::put_date` meets its contract.
use Rattle.line.specs.Line.{date_text}
use Rattle.line.proofs.Putting.{then}
use Rattle.line.proofs.put_date.Goals as goal

pub returns : goal.returns
unfolding date_text
returns c =
    let put-digits = c.put_digits-year in
    let put-text = c.put_text-first in
    let put-digits2 = c.put_digits-month in
    let put-text2 = c.put_text-second in
    let put-digits3 = c.put_digits in
    then (then (then (then put-digits.ensures put-text.ensures) put-digits2.ensures) put-text2.ensures) put-digits3.ensures
