-- `readings::next_read`. From boundary d on the answer is that from the start.
use mathlib.Core.Path.{sym, ◌∙◌}
use lib.ListN.{length}
use Rattle.rules.proofs.Stretches.{is_read_lem, unread, next_end, next_at, next_on}
use Rattle.rules.proofs.readings.next_read.Goals as goal

pub returns-then-read_versions-d-ne0 : goal.returns-then-read_versions-d-ne0
returns-then-read_versions-d-ne0 c =
    let r = c.args.read_versions.now in
    sym (c.loop-d.invariant
    ∙ next_at r (length r) c.loop-d.d c.loop-d-test.true
    (is_read_lem r c.loop-d.d c.if-read_versions-d-ne0.true))

pub loop-d-preserved : goal.loop-d-preserved
loop-d-preserved c =
    let r = c.args.read_versions.now in
    c.loop-d.invariant
    ∙ next_on r (length r) c.loop-d.d c.loop-d-test.true
    (unread r c.loop-d.d c.if-read_versions-d-ne0.false)

pub returns : goal.returns
returns c =
    let r = c.args.read_versions.now in
    sym (c.loop-d.invariant ∙ next_end r (length r) c.loop-d.d c.loop-d-test.false)
