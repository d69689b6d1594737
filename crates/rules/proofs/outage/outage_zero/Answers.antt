-- `outage::outage_zero`: inside a run the answer stands; at its first slot both sides are looked at.
use mathlib.Core.Path.{sym, ◌∙◌}
use native.Mathlib.Omega.{arith}
use Rattle.rules.proofs.Outages.{gap, delivered, zero_none, zero_first, zero_kept, zero_before_lem, zero_after}
use Rattle.rules.proofs.outage.outage_zero.Goals as goal

pub returns-then-versions-at-ne0 : goal.returns-then-versions-at-ne0
returns-then-versions-at-ne0 c = sym (zero_none _ _ _ _ (delivered _ c.args.statuses.now _ c.if-versions-at-ne0.true))

pub returns-then-at-eq0 : goal.returns-then-at-eq0
returns-then-at-eq0 c =
    c.outage_after.ensures
    ∙ sym (zero_first _ _ _ _ c.if-at-eq0.true
    (gap _ c.args.statuses.now _ c.if-versions-at-ne0.false))

pub returns-then-versions-last-eq0 : goal.returns-then-versions-last-eq0
returns-then-versions-last-eq0 c =
    let a = c.args in
    let g = gap a.versions.now a.statuses.now a.at c.if-versions-at-ne0.false in
    c.requires.2 ∙ zero_kept _ _ _ _ _ (omega arith) c.requires.1 g (gap _ a.statuses.now _ c.if-versions-last-eq0.true)

pub returns-then-outage_bit : goal.returns-then-outage_bit
returns-then-outage_bit c =
    let a = c.args in
    let g = gap a.versions.now a.statuses.now a.at c.if-versions-at-ne0.false in
    sym (zero_before_lem _ _ _ _ _ (omega arith) c.requires.1 g
    (delivered _ a.statuses.now _ c.if-versions-last-eq0.false) (sym c.outage_bit.ensures ∙ c.if-outage_bit.true))

pub returns : goal.returns
returns c =
    let a = c.args in
    let g = gap a.versions.now a.statuses.now a.at c.if-versions-at-ne0.false in
    c.outage_after-2.ensures
    ∙ sym (zero_after _ _ _ _ _ (omega arith) c.requires.1 g (delivered _ a.statuses.now _ c.if-versions-last-eq0.false)
    (sym c.outage_bit.ensures ∙ c.if-outage_bit.false))
