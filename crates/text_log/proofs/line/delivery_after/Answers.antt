-- `line::delivery_after`: its numbers by their places.
use mathlib.Core.Path.{sym, ◌∙◌}
use Rattle.text_log.proofs.Calls.{no_delivery, is_delivery}
use Rattle.text_log.proofs.line.delivery_after.Goals as goal

pub returns-in_default : goal.returns-in_default
returns-in_default c = no_delivery _ (sym c.values_in.ensures ∙ c.in_default.is)

pub returns : goal.returns
returns c = is_delivery _ _ (sym c.values_in.ensures ∙ c.in-Some.is)
