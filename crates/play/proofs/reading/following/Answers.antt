-- `reading::following`: each line after the opening so far is a call or passed over.
use native.Mathlib.Omega.{arith}
use Rattle.play.proofs.Stepping.{calls_little, following_first, following_next, following_ends, following_last}
use Rattle.play.proofs.reading.following.Goals as goal

pub loop-at-init : goal.loop-at-init
loop-at-init c = following_first c.requires

pub returns-in_default : goal.returns-in_default
returns-in_default c = following_ends c.loop-at.invariant (rw c.in_default.is at c.tested_at.ensures)

pub overflow_add-lines : goal.overflow_add-lines
overflow_add-lines c = omega (arith, c.well_formed, c.loop-at.invariant.reached.few, c.loop-at-test.true)

pub overflow_add-calls : goal.overflow_add-calls
overflow_add-calls c =
    let told = c.in-Some.ensures in
    let little = calls_little told.line told.calls in
    omega (
      arith,
      c.well_formed,
      c.loop-at.invariant.reached.fewer,
      c.loop-at.invariant.reached.few,
      c.loop-at-test.true,
      little,
    )

pub loop-at-smaller : goal.loop-at-smaller
loop-at-smaller c =
    let found = c.in-Some.ensures.found in
    omega (arith, found.item.further, found.item.inside, c.loop-at-test.true)

pub loop-at-preserved : goal.loop-at-preserved
loop-at-preserved c = following_next c.loop-at.invariant c.in-Some.ensures

pub returns : goal.returns
returns c = following_last c.loop-at.invariant (omega arith)
