-- `days::add_day`: after k turns k totals have the day added.
use mathlib.Core.Path.{ap₂}
use Prim.Native.Nat.{◌+◌, ◌<◌}
use native.Mathlib.Omega.{arith}
use borrow.Author.Rules.{rules}
use lib.ListN.{length}
use Rattle.totals.specs.Inner.Adding.{with_day}
use Rattle.totals.proofs.Replaced.{replaced_none, replaced_next, replaced_all}
use Rattle.totals.proofs.days.add_day.Goals as goal

pub loop-k-init : goal.loop-k-init
loop-k-init c = replaced_none _ _

pub overflow_add-totals : goal.overflow_add-totals
overflow_add-totals c =
    let k = c.loop-k.k in
    let here : k < length c.args.totals.now = search rules in
    omega (arith, c.requires.fits k here, c.loop-k.invariant.left k (search rules), c.share.ensures.1)

pub loop-k-preserved : goal.loop-k-preserved
loop-k-preserved c =
    replaced_next _ _ _ _ _ c.loop-k.invariant (search rules)
    (ap₂ ◌+◌ (c.loop-k.invariant.left c.loop-k.k (search rules)) c.share.ensures.0)

pub returns : goal.returns
unfolding with_day
returns c = replaced_all _ _ _ _ c.loop-k.invariant (search rules)
