-- `line::put_head` meets its contract.
use mathlib.Core.Path.{ap}
use Rattle.line.specs.Line.{date_text}
use Rattle.line.proofs.Putting.{then, same}
use Rattle.line.proofs.put_head.Goals as goal

pub returns : goal.returns
returns c =
    let date-of = c.date_of in
    let put-date = c.put_date-date in
    let put-field = c.put_field-days in
    let put-field2 = c.put_field in
    then (then (same (ap date_text date-of.ensures) put-date.ensures) put-field.ensures) put-field2.ensures
