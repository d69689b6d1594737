-- `held::spanned` has the figures of the comparison.
use Rattle.explain.specs.Inner.Holding.{spanned_with}
use Rattle.explain.proofs.held.spanned.Goals as goal

pub returns : goal.returns
unfolding spanned_with
returns c = rw c.compare-found.ensures
