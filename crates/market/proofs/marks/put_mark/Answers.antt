-- `marks::put_mark` meets its contract.
use Rattle.line.proofs.Putting.{then, same}
use Rattle.market.proofs.Joining.{without_code, with_code}
use Rattle.market.proofs.marks.put_mark.Goals as goal

pub returns-in_default : goal.returns-in_default
returns-in_default c =
    same (without_code c.args.mark c.args.reason.now c.in_default.is) (then c.put_text-quality.ensures c.put_text.ensures)

pub returns : goal.returns
returns c =
    same (with_code c.args.mark c.in-Some.code c.args.reason.now c.in-Some.is) (then c.put_text-quality.ensures
    (then c.put_digits-method.ensures
    (then c.put_field-cause.ensures c.put_text-2.ensures)))
