-- `weeks::pass_gaps`. Before each turn all slots between the place and the first are gaps, and the weeks that are left lie in the book.
use mathlib.Core.Path.{refl, sym, ◌∙◌}
use Prim.Native.Nat.{◌-◌, ◌*◌, ◌≤◌}
use native.Mathlib.Nat.{le_refl, sub_self}
use native.Mathlib.Omega.{arith}
use Rattle.rules.specs.Inner.Ways.{GapsUpTo}
use Rattle.rules.proofs.Gaps.{four_fewer, four_more}
use Rattle.rules.proofs.weeks.pass_gaps.Goals as goal
use Rattle.rules.proofs.weeks.pass_gaps.Goals.{In-loop-left}

-- four weeks lie in the book
four : (c : In-loop-left) → (4 * c.args.week ≤ c.loop-left.at) × ((c.loop-left.left - 4) * c.args.week ≤ c.loop-left.at - 4 * c.args.week)
four c = four_fewer c.loop-left.left _ _ c.loop-left-test.true c.loop-left.invariant.fits

pub loop-left-init : goal.loop-left-init
unfolding GapsUpTo
loop-left-init c =
    record {
      fewer = le_refl _;
      fits = c.requires.0;
      near = le_refl _;
      passed = rw (sub_self c.args.weeks) refl;
    }

pub loop-left-preserved : goal.loop-left-preserved
loop-left-preserved c =
    let held = c.loop-left.invariant in
    let a = c.args in
    let gaps = sym c.are_gaps.ensures ∙ c.if-not-are_gaps.false in
    record {
      fewer = omega (arith, held.fewer);
      fits = (four (goal.at.loop-left-preserved c).In-loop-left).1;
      near = omega (arith, held.near);
      passed =
          four_more a.versions.now a.week a.from _ _ a.weeks (four (goal.at.loop-left-preserved c).In-loop-left).0 c.loop-left-test.true
          held.fewer gaps
          held.passed;
    }
