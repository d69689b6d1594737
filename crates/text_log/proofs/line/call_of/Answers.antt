-- `line::call_of`: the keyword, then its fields.
use mathlib.Core.Bool.{false}
use mathlib.Core.Path.{◌≡◌, ◌∙◌}
use Rattle.text_log.specs.Words.{same}
use Rattle.text_log.specs.Line.{open_word, delivery_word, holiday_word, register_word}
use Rattle.text_log.proofs.Calls.{same_is, call_open, call_delivery, call_holiday, call_register, call_agreed, call_none}
use Rattle.text_log.proofs.line.call_of.Goals as goal
use Rattle.text_log.proofs.line.call_of.Goals.{Else-eq, Else-eq-2, Else-eq-3, Else-eq-4}

-- the keywords that the word is not
not_open : (c : Else-eq) → same c.cut.result.0.now open_word ≡ false
not_open c = same_is _ _ _ c.as_slice.ensures c.eq.ensures c.if-eq.false

not_delivery : (c : Else-eq-2) → same c.cut.result.0.now delivery_word ≡ false
not_delivery c = same_is _ _ _ c.as_slice-2.ensures c.eq-2.ensures c.if-eq-2.false

not_holiday : (c : Else-eq-3) → same c.cut.result.0.now holiday_word ≡ false
not_holiday c = same_is _ _ _ c.as_slice-3.ensures c.eq-3.ensures c.if-eq-3.false

not_register : (c : Else-eq-4) → same c.cut.result.0.now register_word ≡ false
not_register c = same_is _ _ _ c.as_slice-4.ensures c.eq-4.ensures c.if-eq-4.false

pub returns-then-eq : goal.returns-then-eq
returns-then-eq c =
    c.open_after.ensures
    ∙ call_open _ _ _ c.cut.ensures.pieces
    (same_is _ _ _ c.as_slice.ensures c.eq.ensures c.if-eq.true)

pub returns-then-eq-2 : goal.returns-then-eq-2
returns-then-eq-2 c =
    let at = goal.at.returns-then-eq-2 c in
    c.delivery_after.ensures
    ∙ call_delivery _ _ _ c.cut.ensures.pieces (not_open at.Else-eq)
    (same_is _ _ _ c.as_slice-2.ensures c.eq-2.ensures c.if-eq-2.true)

pub returns-then-eq-3 : goal.returns-then-eq-3
returns-then-eq-3 c =
    let at = goal.at.returns-then-eq-3 c in
    c.holiday_after.ensures
    ∙ call_holiday _ _ _ c.cut.ensures.pieces (not_open at.Else-eq) (not_delivery at.Else-eq-2)
    (same_is _ _ _ c.as_slice-3.ensures c.eq-3.ensures c.if-eq-3.true)

pub returns-then-eq-4 : goal.returns-then-eq-4
returns-then-eq-4 c =
    let at = goal.at.returns-then-eq-4 c in
    c.register_after.ensures
    ∙ call_register _ _ _ c.cut.ensures.pieces (not_open at.Else-eq) (not_delivery at.Else-eq-2) (not_holiday at.Else-eq-3)
    (same_is _ _ _ c.as_slice-4.ensures c.eq-4.ensures c.if-eq-4.true)

pub returns-then-eq-5 : goal.returns-then-eq-5
returns-then-eq-5 c =
    let at = goal.at.returns-then-eq-5 c in
    c.agreed_after.ensures
    ∙ call_agreed _ _ _ c.cut.ensures.pieces (not_open at.Else-eq) (not_delivery at.Else-eq-2) (not_holiday at.Else-eq-3)
    (not_register at.Else-eq-4)
    (same_is _ _ _ c.as_slice-5.ensures c.eq-5.ensures c.if-eq-5.true)

pub returns : goal.returns
returns c =
    let at = goal.at.returns c in
    call_none _ _ _ c.cut.ensures.pieces (not_open at.Else-eq) (not_delivery at.Else-eq-2) (not_holiday at.Else-eq-3)
    (not_register at.Else-eq-4)
    (same_is _ _ _ c.as_slice-5.ensures c.eq-5.ensures c.if-eq-5.false)
