-- `line::agreed_after`: its numbers by their places.
use mathlib.Core.Path.{sym, ◌∙◌}
use Rattle.text_log.proofs.Calls.{no_agreed, is_agreed_lem}
use Rattle.text_log.proofs.line.agreed_after.Goals as goal

pub returns-in_default : goal.returns-in_default
returns-in_default c = no_agreed _ (sym c.values_in.ensures ∙ c.in_default.is)

pub returns : goal.returns
returns c = is_agreed_lem _ _ (sym c.values_in.ensures ∙ c.in-Some.is)
