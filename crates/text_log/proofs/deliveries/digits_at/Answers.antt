-- `deliveries::digits_at`: the digits so far and their value; nine of them at most.
use borrow.Author.Rules.{rules}
use native.Mathlib.Omega.{arith}
use Rattle.text_log.proofs.OnePass.{few_begin, few_eight, few_next}
use Rattle.text_log.proofs.deliveries.digits_at.Goals as goal

pub loop-end-init : goal.loop-end-init
loop-end-init c = few_begin c.requires

pub overflow_mul-value : goal.overflow_mul-value
overflow_mul-value c = omega (arith, few_eight c.requires c.loop-end.invariant c.loop-end-test.true)

pub overflow_add-value : goal.overflow_add-value
overflow_add-value c = omega (arith, few_eight c.requires c.loop-end.invariant c.loop-end-test.true)

pub loop-end-preserved : goal.loop-end-preserved
loop-end-preserved c =
    rw c.from.ensures (few_next c.requires c.loop-end.invariant c.loop-end-test.true (search rules) (search rules))
