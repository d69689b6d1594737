-- `names::sawmauve_slot`: the slot or the refusal as one number.
use mathlib.Core.Path.{ap, ◌∙◌}
use Rattle.base.specs.Refusals.{number_code}
use Rattle.questions.proofs.names.sawmauve_slot.Goals as goal

pub returns : goal.returns
returns c = rw (← c.head_of-head.ensures) (c.number_code.ensures ∙ ap number_code c.slot_of.ensures)
