-- `days::put_run` meets its contract.
use Rattle.line.proofs.Putting.{nothing}
use borrow.Author.Rules.{rules}
use Rattle.market.proofs.days.put_run.Goals as goal

pub returns-then-not-ends : goal.returns-then-not-ends
returns-then-not-ends c = rw c.if-not-ends.true (nothing _ _ (search rules) (search rules))

pub returns : goal.returns
returns c =
    rw c.if-not-ends.false
    c.put_400.ensures
