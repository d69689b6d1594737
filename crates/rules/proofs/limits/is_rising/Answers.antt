-- `limits::is_rising`. Every limit passed rises, so the test of all is that of those left; the one before is known.
use mathlib.Core.Path.{sym, ◌∙◌}
use native.Mathlib.Nat.{sub-zero}
use native.Mathlib.Omega.{arith}
use lib.ListN.{length}
use Rattle.base.proofs.Sums.{all_more, all_fails, all_done}
use Rattle.rules.specs.Limits.{rises_at}
use Rattle.rules.proofs.Tables.{before_first, before_on, not_above, too_high, rises}
use Rattle.rules.proofs.limits.is_rising.Goals as goal

pub loop-limit-init : goal.loop-limit-init
loop-limit-init c = record { before = before_first c.args.table.now; rising = rw sub-zero }

pub returns-then-limit-last : goal.returns-then-limit-last
returns-then-limit-last c =
    let l = c.loop-limit in
    let table = c.args.table.now in
    sym (l.invariant.rising ∙ all_fails (rises_at table) l.limit-index (length table) c.loop-limit-test.true
    (not_above table l.limit-index l.last l.invariant.before c.if-limit-last.true))

pub returns-then-limit-gt-MOST_LIMIT : goal.returns-then-limit-gt-MOST_LIMIT
returns-then-limit-gt-MOST_LIMIT c =
    let l = c.loop-limit in
    let table = c.args.table.now in
    sym (l.invariant.rising ∙ all_fails (rises_at table) l.limit-index (length table) c.loop-limit-test.true
    (too_high table l.limit-index l.last l.invariant.before c.if-limit-gt-MOST_LIMIT.true))

pub loop-limit-preserved : goal.loop-limit-preserved
loop-limit-preserved c =
    let l = c.loop-limit in
    let table = c.args.table.now in
    let rising = rises table l.limit-index l.last l.invariant.before c.if-limit-last.false c.if-limit-gt-MOST_LIMIT.false in
    record {
      before = before_on table l.limit-index;
      rising = l.invariant.rising ∙ all_more (rises_at table) l.limit-index (length table) c.loop-limit-test.true rising;
    }

pub returns : goal.returns
returns c =
    let l = c.loop-limit in
    let table = c.args.table.now in
    sym (l.invariant.rising ∙ all_done (rises_at table) l.limit-index (length table) (omega arith))
