-- `sawmauve_explain`: 1, then 2 for the fields, then what explaining answers.
use mathlib.Core.Bool.{true}
use mathlib.Core.Path.{◌≡◌, sym, ◌∙◌}
use Rattle.rules.specs.Opening.{head_ok}
use Rattle.host.specs.Codes.{head_of}
use Rattle.questions.proofs.Explaining.{refused_head, refused_fields, refused_rest, explained}
use Rattle.questions.proofs.follow.sawmauve_explain.Goals as goal
use Rattle.questions.proofs.follow.sawmauve_explain.Goals.{Else-not-head_ok}

head_passed : (c : Else-not-head_ok) → let a = c.args in
    head_ok (head_of a.year a.month a.day a.days a.interval a.limit a.tolerance) ≡ true
head_passed c = rw c.head_of-head.ensures at (sym c.head_ok.ensures ∙ c.if-not-head_ok.false)

pub returns-then-not-head_ok : goal.returns-then-not-head_ok
returns-then-not-head_ok c =
    rw c.number.ensures
    (refused_head _ _ _ _ (rw c.head_of-head.ensures at (sym c.head_ok.ensures ∙ c.if-not-head_ok.true)))

pub returns-then-fields-ne34 : goal.returns-then-fields-ne34
returns-then-fields-ne34 c =
    rw c.number-then-fields-ne34.ensures
    (refused_fields _ _ _ _ (head_passed (goal.at.returns-then-fields-ne34 c).Else-not-head_ok) c.if-fields-ne34.true)

pub returns-in-Ok : goal.returns-in-Ok
returns-in-Ok c =
    let x = explained _ _ _ _ (head_passed (goal.at.returns-in-Ok c).Else-not-head_ok) c.if-fields-ne34.false _
    (rw (c.head_of-head.ensures, c.of-book.ensures) at c.in-Ok.ensures) in
    (x.0, c.copy_from_slice.ensures.after ∙ c.fields_of.ensures ∙ x.1)

pub returns-in-Err : goal.returns-in-Err
returns-in-Err c =
    let x = refused_rest _ _ _ _ (head_passed (goal.at.returns-in-Err c).Else-not-head_ok) c.if-fields-ne34.false _
    (rw (c.head_of-head.ensures, c.of-book.ensures) at c.in-Err.ensures) in
    (c.number-in-Err.ensures ∙ x.0, x.1)
