-- `days::put_values` meets its contract.
use borrow.Author.Rules.{rules}
use mathlib.Core.Path.{◌≡◌, ap, ◌∙◌}
use native.Mathlib.Omega.{arith}
use lib.ListN.{length}
use Rattle.line.proofs.Putting.{length_stored}
use Rattle.market.proofs.Joining.{joined_none, joined_next}
use Rattle.market.proofs.days.put_values.Goals as goal

pub loop-i-init : goal.loop-i-init
loop-i-init c = joined_none _ _ _ _ (search rules) (search rules)

pub loop-i-preserved : goal.loop-i-preserved
loop-i-preserved c =
    joined_next _ _ c.loop-i.i c.loop-i.invariant c.put_value-next.ensures

pub shape_of-out : goal.shape_of-out
shape_of-out c = ap length c.loop-i.invariant.has ∙ length_stored _ _ _

pub returns : goal.returns
returns c =
    let done : c.loop-i.i ≡ c.args.k = omega arith in
    rw done at c.loop-i.invariant
