-- `stretch::stretch_by` scales in state 1 only.
use borrow.Author.Tests.{eq-eqb, ne_eqb}
use Rattle.rules.specs.Inner.Stretches.{stretch_by}
use Rattle.rules.proofs.stretch.stretch_by.Goals as goal

pub returns-then-state-ne1 : goal.returns-then-state-ne1
unfolding stretch_by
returns-then-state-ne1 c = rw (ne_eqb _ _ c.if-state-ne1.true) c.unscaled_to.ensures

pub returns : goal.returns
unfolding stretch_by
returns c = rw (eq-eqb _ _ c.if-state-ne1.false, c.scaling_of.ensures)
