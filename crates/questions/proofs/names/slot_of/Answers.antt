-- `names::slot_of`: 1 goes before 3.
use mathlib.Core.Path.{sym, ◌∙◌}
use Rattle.questions.specs.Naming.{slot_answer}
use Rattle.questions.proofs.names.slot_of.Goals as goal

pub returns-then-not-head_ok : goal.returns-then-not-head_ok
unfolding slot_answer
returns-then-not-head_ok c = rw (sym c.head_ok.ensures ∙ c.if-not-head_ok.true)

pub returns-then-not-is_date : goal.returns-then-not-is_date
unfolding slot_answer
returns-then-not-is_date c = rw (sym c.head_ok.ensures ∙ c.if-not-head_ok.false, sym c.is_date.ensures ∙ c.if-not-is_date.true)

pub day_number-number-requires : goal.day_number-number-requires
day_number-number-requires c = sym c.is_date.ensures ∙ c.if-not-is_date.false

pub returns : goal.returns
unfolding slot_answer
returns c =
    let good = sym c.head_ok.ensures ∙ c.if-not-head_ok.false in
    let date = sym c.is_date.ensures ∙ c.if-not-is_date.false in
    rw (good, date, ← c.day_number-number.ensures, ← c.slot_at.ensures)
    c.ok_or.ensures.value
