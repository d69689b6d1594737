-- `spans::scaling_of`: each e counts as 1 where all are 0.
use borrow.Author.Tests.{eq-eqb, ne_eqb}
use Rattle.rules.specs.Inner.Summaries.{scaling_of}
use Rattle.rules.proofs.spans.scaling_of.Goals as goal

pub returns-then-sum-eq0 : goal.returns-then-sum-eq0
unfolding scaling_of
returns-then-sum-eq0 c = simp (eq-eqb _ _ c.if-sum-eq0.true)

pub returns : goal.returns
unfolding scaling_of
returns c = simp (ne_eqb _ _ c.if-sum-eq0.false)
