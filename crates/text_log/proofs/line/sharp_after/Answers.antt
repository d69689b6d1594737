-- `line::sharp_after`: its numbers by their places.
use mathlib.Core.Path.{sym, ◌∙◌}
use Rattle.text_log.proofs.Calls.{no_sharp, is_sharp}
use Rattle.text_log.proofs.line.sharp_after.Goals as goal

pub returns-in_default : goal.returns-in_default
returns-in_default c = no_sharp _ (sym c.values_in.ensures ∙ c.in_default.is)

pub returns : goal.returns
returns c = is_sharp _ _ (sym c.values_in.ensures ∙ c.in-Some.is)
