-- `days::put_date` meets its contract.
use mathlib.Core.Path.{ap}
use mathlib.Core.List.{◌++◌}
use Rattle.line.specs.Line.{digits}
use Rattle.calendar.specs.declared.Date.{Date}
use Rattle.market.specs.Fields.{date_field}
use Rattle.line.proofs.Putting.{then, same}
use Rattle.market.proofs.days.put_date.Goals as goal

pub returns : goal.returns
unfolding date_field
returns c =
    same (ap (λ (d : Date). digits 4 d.year ++ (digits 2 d.month ++ digits 2 d.day))
    c.date_of-date.ensures) (then c.put_digits-year.ensures
    (then c.put_digits-month.ensures c.put_digits.ensures))
