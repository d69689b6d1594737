-- `tell`: each part is what the rules say of the slot.
use mathlib.Core.Path.{◌∙◌}
use Rattle.rules.specs.Tests.{cause_at}
use Rattle.rules.specs.Lent.{cells_in}
use Rattle.rules.proofs.Bounds.{bounded}
use Rattle.explain.proofs.Telling.{fits_are, told_is}
use Rattle.explain.proofs.tell.Goals as goal

pub tell_with-requires : goal.tell_with-requires
tell_with-requires c =
    let a = c.args in
    let b = cells_in a.cells.now in
    simp (c.fill_slot-filled.ensures.0, c.fill_slot-filled.ensures.1, c.hold-held.ensures.1)
    (fits_are a.head (bounded a.head c.requires.0.lent.fitted.head) b a.slot c.requires.0.widths.low)

pub returns : goal.returns
unfolding cause_at
returns c =
    let a = c.args in
    let b = cells_in a.cells.now in
    c.tell_with.ensures
    ∙ told_is a.head (bounded a.head c.requires.0.lent.fitted.head) b a.slot _
    c.fill_slot-filled.result c.rule_of-rule.result c.hold-held.result
    c.cause_of-cause.ensures c.fill_slot-filled.ensures.0 c.fill_slot-filled.ensures.1
    c.fill_slot-filled.ensures.2 c.rule_of-rule.ensures
    c.hold-held.ensures.0 c.hold-held.ensures.1
