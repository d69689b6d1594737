-- `filling::fill_cause`: an agreed slot has its value, another goes by the rules.
use mathlib.Core.Path.{◌∙◌}
use borrow.Author.Tests.{lt-ltb}
use Rattle.rules.specs.Filling.{is_agreed, shape_of}
use Rattle.rules.specs.Lent.{slots_in, agreed_in}
use Rattle.rules.proofs.Bounds.{bounded}
use Rattle.rules.proofs.Fillings.{filled_agreed}
use Rattle.rules.proofs.Ruled.{line_drawn, ruled}
use Rattle.rules.proofs.Runs.{not_agreed}
use Rattle.rules.proofs.Shapes.{shape_filled}
use Rattle.rules.proofs.filling.fill_cause.Goals as goal

pub returns-then-agreed-at-gt0 : goal.returns-then-agreed-at-gt0
unfolding is_agreed shape_of
returns-then-agreed-at-gt0 c =
    let a = c.args in
    let s = slots_in a.slots.now in
    let g = agreed_in a.agreed.now in
    let e = filled_agreed a.head s g a.holidays.now a.at c.requires.3 (lt-ltb _ _ c.if-agreed-at-gt0.true) in
    (c.by_agreement.ensures ∙ e, shape_filled a.head s g a.holidays.now a.at _ e, c.line_on-line.ensures)

pub unscaled-shaped-requires : goal.unscaled-shaped-requires
unscaled-shaped-requires c =
    let a = c.args in
    let s = slots_in a.slots.now in
    let g = agreed_in a.agreed.now in (
      c.requires.0,
      c.requires.2,
      line_drawn a.head (bounded a.head c.requires.0.fitted.head) s g a.at c.requires.2 c.requires.3
          (not_agreed g.versions a.at c.if-agreed-at-gt0.false) _ c.requires.4 _ c.line_on-line.ensures,
    )

pub returns : goal.returns
returns c =
    let a = c.args in
    let s = slots_in a.slots.now in
    let g = agreed_in a.agreed.now in
    let found = c.unscaled-shaped.ensures in
    let by = ruled a.head (bounded a.head c.requires.0.fitted.head) s g a.at c.requires.2 c.requires.3
    (not_agreed g.versions a.at c.if-agreed-at-gt0.false) _ c.requires.4 _ c.line_on-line.ensures a.holidays.now _ _
    found.0 found.1 in
    (by.0, by.1, c.line_on-line.ensures)
