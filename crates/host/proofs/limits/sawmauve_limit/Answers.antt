-- `sawmauve_limit`: the limit, or the refusal past every limit.
use mathlib.Core.Path.{ap, ◌∙◌}
use Rattle.base.specs.Refusals.{number_code}
use Rattle.host.proofs.limits.sawmauve_limit.Goals as goal

pub returns : goal.returns
returns c = c.number_code.ensures ∙ ap number_code c.load.ensures
