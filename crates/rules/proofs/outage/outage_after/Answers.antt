-- `outage::outage_after`. From slot j on the answer is that from the start.
use mathlib.Core.Path.{sym, ◌∙◌}
use lib.ListN.{length}
use Rattle.rules.proofs.Outages.{gap, delivered, after_end, after_gap, after_delivered}
use Rattle.rules.proofs.outage.outage_after.Goals as goal

pub returns-then-versions-j-ne0 : goal.returns-then-versions-j-ne0
returns-then-versions-j-ne0 c =
    let a = c.args in
    let j = c.loop-j.j in
    c.outage_bit.ensures
    ∙ sym (after_delivered a.versions.now a.statuses.now (length a.versions.now) j c.loop-j-test.true
    (delivered a.versions.now a.statuses.now j c.if-versions-j-ne0.true))
    ∙ sym c.loop-j.invariant

pub loop-j-preserved : goal.loop-j-preserved
loop-j-preserved c =
    let a = c.args in
    let j = c.loop-j.j in
    c.loop-j.invariant
    ∙ after_gap a.versions.now a.statuses.now (length a.versions.now) j c.loop-j-test.true
    (gap a.versions.now a.statuses.now j c.if-versions-j-ne0.false)

pub returns : goal.returns
returns c =
    let a = c.args in
    sym (c.loop-j.invariant
    ∙ after_end a.versions.now a.statuses.now (length a.versions.now) c.loop-j.j c.loop-j-test.false)
