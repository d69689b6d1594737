-- `walk::fill_at`: a good slot has its value, another is filled.
use mathlib.Core.Path.{◌∙◌, sym, refl}
use native.Mathlib.Omega.{arith}
use Rattle.rules.specs.Lent.{slots_in, agreed_in}
use Rattle.rules.proofs.Runs.{run_good}
use Rattle.rules.proofs.Outages.{zero_none, zero_applies, good_delivered, filled_good}
use Rattle.rules.proofs.Lines.{line_none, walk_outage, walk_line, walk_next}
use Rattle.rules.proofs.Shapes.{shape_good}
use Rattle.rules.proofs.walk.fill_at.Goals as goal

pub returns-then-is_good : goal.returns-then-is_good
returns-then-is_good c =
    let a = c.args in
    let s = slots_in a.slots.now in
    let v = a.agreed.now.versions.now in
    let x = agreed_in a.agreed.now in
    let i = a.walk.at in
    let g = sym c.is_good.ensures ∙ c.if-is_good.true in (
      c.delivered.ensures ∙ filled_good a.head s x a.holidays.now i g,
      shape_good a.head s x a.holidays.now i g,
      walk_next a.head s v i _ refl _ (sym (zero_none s.versions s.statuses _ _ (good_delivered a.head s i g))) _
          (c.bare.ensures ∙ line_none a.head s v i (run_good a.head s v i g)),
    )

pub outage_zero-outage-requires : goal.outage_zero-outage-requires
outage_zero-outage-requires c =
    let a = c.args in
    let s = slots_in a.slots.now in (
      omega arith,
      omega arith,
      walk_outage a.head s a.agreed.now.versions.now a.walk a.walk.at c.requires.3 _ c.requires.0.fitted.versions,
    )

pub fill_cause-lined-requires : goal.fill_cause-lined-requires
fill_cause-lined-requires c =
    let a = c.args in
    let s = slots_in a.slots.now in (
      c.requires.0,
      c.requires.1,
      c.requires.2,
      sym c.is_good.ensures ∙ c.if-is_good.false,
      c.outage_zero-outage.ensures ∙ zero_applies a.head s _ c.requires.0.fitted.versions a.walk.at,
      walk_line a.head s a.agreed.now.versions.now a.walk a.walk.at c.requires.3,
    )

pub returns : goal.returns
returns c =
    let a = c.args in
    let s = slots_in a.slots.now in (
      c.fill_cause-lined.ensures.0,
      c.fill_cause-lined.ensures.1,
      walk_next a.head s a.agreed.now.versions.now a.walk.at _ c.requires.0.fitted.versions _
          c.outage_zero-outage.ensures _ c.fill_cause-lined.ensures.2,
    )
