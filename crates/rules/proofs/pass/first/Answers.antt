-- `pass::first` knows nothing before slot 0.
use Rattle.rules.specs.Inner.Walks.{zero_before, line_before, walk_at}
use Rattle.rules.specs.Inner.Stretches.{carried_at}
use Rattle.rules.specs.Inner.Passes.{pass_at}
use Rattle.rules.proofs.pass.first.Goals as goal

pub returns : goal.returns
unfolding pass_at walk_at carried_at zero_before line_before
returns c = λ h b. rw (c.unscaled_to.ensures, c.bare.ensures)
