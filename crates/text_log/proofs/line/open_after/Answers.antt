-- `line::open_after`: a date, and four numbers by their places.
use mathlib.Core.Path.{sym, ◌∙◌}
use Rattle.text_log.proofs.Calls.{no_fields, no_date, no_open, is_open}
use Rattle.text_log.proofs.line.open_after.Goals as goal

pub returns-in_default : goal.returns-in_default
returns-in_default c = no_fields _ c.in_default.ensures

pub returns-in_default-date_of : goal.returns-in_default-date_of
returns-in_default-date_of c = no_date _ _ _ c.in-Some.ensures.0 (sym c.date_of.ensures ∙ c.in_default-date_of.is)

pub returns-in_default-values_in : goal.returns-in_default-values_in
returns-in_default-values_in c =
    no_open _ _ _ c.in-Some.ensures.0 _ (sym c.date_of.ensures ∙ c.in-Some-date_of.is) (sym c.values_in.ensures ∙ c.in_default-values_in.is)

pub returns : goal.returns
returns c =
    is_open _ _ _ c.in-Some.ensures.0 _ (sym c.date_of.ensures ∙ c.in-Some-date_of.is)
    _ (sym c.values_in.ensures ∙ c.in-Some-values_in.is)
