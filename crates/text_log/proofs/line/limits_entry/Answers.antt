-- `line::limits_entry`: a table, or none.
use mathlib.Core.Path.{sym, ◌∙◌}
use Rattle.text_log.proofs.Calls.{is_table, no_table}
use Rattle.text_log.proofs.line.limits_entry.Goals as goal

pub returns-in-Some : goal.returns-in-Some
returns-in-Some c = is_table _ _ (sym c.limits_in.ensures ∙ c.in-Some.is)

pub returns-in-None : goal.returns-in-None
returns-in-None c = c.bare.ensures ∙ no_table _ (sym c.limits_in.ensures ∙ c.in-None.is)
