-- `days::put_days` meets its contract.
use borrow.Author.Rules.{rules}
use mathlib.Core.Path.{◌≡◌, ap, ◌∙◌}
use native.Mathlib.Nat.{mul-le-mul}
use native.Mathlib.Omega.{arith}
use lib.ListN.{length}
use Rattle.market.specs.Records.{days_of}
use Rattle.line.proofs.Putting.{length_stored}
use Rattle.market.proofs.Joining.{joined_none, joined_next_0, day_within}
use Rattle.market.proofs.days.put_days.Goals as goal

pub loop-d-init : goal.loop-d-init
loop-d-init c = joined_none _ _ _ _ (search rules) (search rules)

pub overflow_add-day : goal.overflow_add-day
overflow_add-day c = omega (arith, c.requires.1)

pub overflow_mul-day : goal.overflow_mul-day
overflow_mul-day c =
    omega (
      arith,
      day_within c.args.n c.loop-d.d c.args.days (search rules),
      mul-le-mul c.requires.0.day c.requires.0.few,
    )

pub put_day-next-requires : goal.put_day-next-requires
put_day-next-requires c = (
  omega (arith, day_within c.args.n c.loop-d.d c.args.days (search rules), c.requires.0.long),
  c.requires.0.some,
  omega (arith, c.requires.1),
)

pub loop-d-preserved : goal.loop-d-preserved
loop-d-preserved c =
    joined_next_0 _ c.loop-d.d c.loop-d.invariant c.put_day-next.ensures

pub shape_of-out : goal.shape_of-out
shape_of-out c = ap length c.loop-d.invariant.has ∙ length_stored _ _ _

pub returns : goal.returns
unfolding days_of
returns c =
    let done : c.loop-d.d ≡ c.args.days = omega arith in
    rw done at c.loop-d.invariant
