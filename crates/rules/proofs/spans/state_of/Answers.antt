-- `spans::state_of` tests in the order of 01.
use mathlib.Core.Path.{sym, ◌∙◌}
use borrow.Author.Tests.{le-leb, lt-leb}
use Rattle.rules.specs.Spans.{state_by}
use Rattle.rules.proofs.spans.state_of.Goals as goal

pub returns-then-sum : goal.returns-then-sum
unfolding state_by
returns-then-sum c = simp c.if-sum.true

pub returns-then-sum-r : goal.returns-then-sum-r
unfolding state_by
returns-then-sum-r c = simp (c.if-sum.false, c.if-sum-2.true, le-leb _ _ c.if-sum-r.true)

pub returns-then-sum-2 : goal.returns-then-sum-2
unfolding state_by
returns-then-sum-2 c = simp (c.if-sum.false, c.if-sum-2.true, lt-leb _ _ c.if-sum-r.false)

pub returns-then-is_near : goal.returns-then-is_near
unfolding state_by
returns-then-is_near c = simp (c.if-sum.false, c.if-sum-2.false, sym c.is_near.ensures ∙ c.if-is_near.true)

pub returns : goal.returns
unfolding state_by
returns c = simp (c.if-sum.false, c.if-sum-2.false, sym c.is_near.ensures ∙ c.if-is_near.false)
