-- `writing::put_decimal` meets its contract.
use mathlib.Core.Path.{ap}
use Rattle.line.specs.Line.{digits, decimal}
use Rattle.line.proofs.Putting.{same}
use Rattle.line.proofs.writing.put_decimal.Goals as goal

pub returns : goal.returns
unfolding decimal
returns c =
    same (ap (λ w. digits w c.args.n) c.places.ensures)
    c.put_digits.ensures
