-- `length_of`: the length fits.
use native.Mathlib.Omega.{arith}
use Rattle.rules.proofs.Bounds.{bounded, count_high}
use Rattle.publishing.proofs.length_of.Goals as goal

pub overflow_mul-result : goal.overflow_mul-result
overflow_mul-result c =
    omega (arith, count_high c.args.head (bounded c.args.head c.requires.0), c.slot_count.ensures)

pub overflow_add-result : goal.overflow_add-result
overflow_add-result c =
    omega (arith, count_high c.args.head (bounded c.args.head c.requires.0), c.slot_count.ensures)

pub overflow_add-result-2 : goal.overflow_add-result-2
overflow_add-result-2 c =
    omega (arith, count_high c.args.head (bounded c.args.head c.requires.0), c.slot_count.ensures)
