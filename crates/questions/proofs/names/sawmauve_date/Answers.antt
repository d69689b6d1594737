-- `names::sawmauve_date`: the date or the refusal as one number.
use mathlib.Core.Path.{ap, ◌∙◌}
use Rattle.base.specs.Refusals.{number_code}
use Rattle.questions.proofs.names.sawmauve_date.Goals as goal

pub returns : goal.returns
returns c = c.number_code.ensures ∙ ap number_code c.digits_of.ensures
