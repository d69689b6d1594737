-- `back::fills_before`: what a pass knows before slot k, from a good slot on.
use mathlib.Core.Path.{◌≡◌, ap, ◌∙◌}
use native.Mathlib.Omega.{arith}
use Rattle.rules.specs.Opening.{slot_count}
use Rattle.rules.specs.Lent.{slots_in}
use Rattle.rules.specs.Inner.Walks.{zero_before, line_before}
use Rattle.rules.proofs.Outages.{zero_applies}
use Rattle.explain.proofs.Passing.{none_before, zero_next, line_next, walk_are}
use Rattle.explain.proofs.back.fills_before.Goals as goal

pub loop-k-init : goal.loop-k-init
loop-k-init c =
    let a = c.args in
    let s = slots_in a.slots.now in
    let n = none_before a.head s a.agreed_versions.now (slot_count a.head) _ c.since_good-k.ensures.good in
    record {
      inside = c.since_good-k.ensures.low;
      zeroed = n.0;
      drawn = c.bare-line.ensures ∙ n.1;
      none = c.since_good-k.ensures.causes;
    }

pub line_on-line-requires : goal.line_on-line-requires
line_on-line-requires c =
    let a = c.args in
    let s = slots_in a.slots.now in (
      c.requires.0,
      c.requires.1,
      omega (arith, c.requires.2),
      c.loop-k.invariant.none _ (omega arith) c.loop-k-test.true,
      c.outage_zero-outage.ensures ∙ zero_applies a.head s _ c.requires.0.versions _,
      c.loop-k.invariant.drawn,
    )

pub loop-k-preserved : goal.loop-k-preserved
loop-k-preserved c =
    let a = c.args in
    let s = slots_in a.slots.now in
    record {
      inside = omega arith;
      zeroed =
          (rw c.requires.0.versions at c.outage_zero-outage.ensures)
          ∙ zero_next a.head s a.agreed_versions.now (slot_count a.head) _;
      drawn = c.line_on-line.ensures ∙ line_next a.head s a.agreed_versions.now (slot_count a.head) _;
      none = λ j l m. c.loop-k.invariant.none j (omega arith) m;
    }

pub returns : goal.returns
returns c =
    let a = c.args in
    let s = slots_in a.slots.now in
    let e : c.loop-k.k ≡ a.at = omega (arith, c.loop-k.invariant.inside, c.loop-k-test.false) in
    walk_are a.head s a.agreed_versions.now a.at _ _
    (c.loop-k.invariant.zeroed ∙ ap (zero_before s.versions s.statuses (slot_count a.head)) e)
    (c.loop-k.invariant.drawn ∙ ap (line_before a.head s a.agreed_versions.now) e)
