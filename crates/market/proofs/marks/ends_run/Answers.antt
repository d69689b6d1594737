-- `marks::ends_run` meets its contract.
use borrow.Author.Tests.{eq-eqb, ne_eqb}
use Rattle.market.specs.Fields.{ends_run}
use Rattle.market.proofs.marks.ends_run.Goals as goal

pub returns-then-j-n : goal.returns-then-j-n
unfolding ends_run
returns-then-j-n c = rw (eq-eqb _ _ c.if-j-n.true)

pub returns : goal.returns
unfolding ends_run
returns c =
    rw (
      ne_eqb _ _ c.if-j-n.false,
      c.are_alike.ensures,
      c.mark_at-here.ensures,
      c.mark_at.ensures,
    )
