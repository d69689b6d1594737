-- `line::holiday_after`: its numbers by their places.
use mathlib.Core.Path.{sym, ◌∙◌}
use Rattle.text_log.proofs.Calls.{no_holiday, is_holiday}
use Rattle.text_log.proofs.line.holiday_after.Goals as goal

pub returns-in_default : goal.returns-in_default
returns-in_default c = no_holiday _ (sym c.values_in.ensures ∙ c.in_default.is)

pub returns : goal.returns
returns c = is_holiday _ _ (sym c.values_in.ensures ∙ c.in-Some.is)
