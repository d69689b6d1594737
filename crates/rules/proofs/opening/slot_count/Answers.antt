-- `opening::slot_count`: a good head has at most 115,200 slots.
use native.Mathlib.Omega.{arith}
use Rattle.rules.specs.Opening.{slot_count}
use Rattle.rules.proofs.Bounds.{bounded, count_high}
use Rattle.rules.proofs.opening.slot_count.Goals as goal

pub overflow_mul-result : goal.overflow_mul-result
unfolding slot_count
overflow_mul-result c =
    let h = c.args.head in
    rw c.slots_per_day.ensures (omega (arith, count_high h (bounded h c.requires)))

pub returns : goal.returns
unfolding slot_count
returns c = rw c.slots_per_day.ensures
