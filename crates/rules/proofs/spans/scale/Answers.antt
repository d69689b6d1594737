-- `spans::scale`: the new value, and the sum passed.
use Rattle.rules.specs.Inner.Summaries.{scaled_by}
use Rattle.rules.proofs.spans.scale.Goals as goal

pub returns : goal.returns
unfolding scaled_by
returns c = rw c.new_value-value.ensures
