-- `line::register_after`: four numbers, or three.
use mathlib.Core.Path.{sym, ◌∙◌}
use Rattle.text_log.proofs.Calls.{no_width, is_register}
use Rattle.text_log.proofs.line.register_after.Goals as goal

pub returns-in_default : goal.returns-in_default
returns-in_default c = c.sharp_after.ensures ∙ no_width _ (sym c.values_in.ensures ∙ c.in_default.is)

pub returns : goal.returns
returns c = is_register _ _ (sym c.values_in.ensures ∙ c.in-Some.is)
