-- `linear::length_within`. The k slots from slot `at` lie in the run, and the one before slot at + k is not zeroed.
use mathlib.Core.Bool.{true}
use mathlib.Core.Path.{◌≡◌, refl, sym, ◌∙◌}
use Prim.Native.Nat.{suc, ◌+◌}
use native.Mathlib.Numerals.{add-one}
use native.Mathlib.Omega.{arith}
use Rattle.rules.specs.Filling.{in_run}
use Rattle.rules.specs.Lent.{slots_in}
use Rattle.rules.proofs.Bounds.{bounded}
use Rattle.rules.proofs.Runs.{not_agreed, run_agreed, run_zeroed, run_holds, from_on, run_on}
use Rattle.rules.proofs.Runs.{within_last, within_good, within_broken}
use Rattle.rules.proofs.Runs.{within_long}
use Rattle.rules.proofs.Outages.{zero_applies, run_not_zeroed}
use Rattle.rules.proofs.linear.length_within.Goals as goal
use Rattle.rules.proofs.linear.length_within.Goals.{Else-outage_zero}

-- the slot lies in the run
runs : (c : Else-outage_zero) → let a = c.args in
    in_run a.head (slots_in a.slots.now) a.agreed_versions.now (a.at + c.loop-k.k) ≡ true
runs c =
    let a = c.args in
    let s = slots_in a.slots.now in
    run_holds a.head s a.agreed_versions.now (a.at + c.loop-k.k) (sym c.is_good.ensures ∙ c.if-is_good.false)
    (not_agreed _ _ c.if-agreed_versions-next-gt0.false) _
    (c.outage_zero.ensures ∙ zero_applies a.head s _ c.requires.0.versions (a.at + c.loop-k.k)) c.if-outage_zero.false

pub nonzero_div-most : goal.nonzero_div-most
nonzero_div-most c = let b = bounded c.args.head c.requires.0.head in omega (arith, b.interval_low)

pub loop-k-init : goal.loop-k-init
loop-k-init c =
    let a = c.args in
    let s = slots_in a.slots.now in
    record {
      inside = omega arith;
      run = rw add-one (omega (arith, from_on a.head s a.agreed_versions.now a.at c.requires.2 c.requires.3));
      level = rw add-one (run_not_zeroed a.head s a.agreed_versions.now _ a.at refl c.requires.3);
    }

pub returns-then-slots-next : goal.returns-then-slots-next
returns-then-slots-next c =
    let a = c.args in
    sym (within_last a.head (slots_in a.slots.now) a.agreed_versions.now a.at
    c.loop-k.k c.loop-k.invariant.run (omega arith))

pub returns-then-is_good : goal.returns-then-is_good
returns-then-is_good c =
    let a = c.args in
    let b = bounded a.head c.requires.0.head in
    sym (within_good a.head (slots_in a.slots.now) a.agreed_versions.now a.at
    c.loop-k.k c.loop-k.invariant.run c.loop-k-test.true (omega (arith, b.interval_low)) (omega arith)
    (sym c.is_good.ensures ∙ c.if-is_good.true))

pub returns-then-agreed_versions-next-gt0 : goal.returns-then-agreed_versions-next-gt0
returns-then-agreed_versions-next-gt0 c =
    let a = c.args in
    let s = slots_in a.slots.now in
    sym (within_broken a.head s a.agreed_versions.now a.at c.loop-k.k c.loop-k.invariant.run
    (sym c.is_good.ensures ∙ c.if-is_good.false)
    (run_agreed a.head s a.agreed_versions.now _ c.if-agreed_versions-next-gt0.true))

pub returns-then-outage_zero : goal.returns-then-outage_zero
returns-then-outage_zero c =
    let a = c.args in
    let s = slots_in a.slots.now in
    sym (within_broken a.head s a.agreed_versions.now a.at c.loop-k.k
    c.loop-k.invariant.run (sym c.is_good.ensures ∙ c.if-is_good.false)
    (run_zeroed a.head s a.agreed_versions.now _ _
    (c.outage_zero.ensures ∙ zero_applies a.head s _ c.requires.0.versions _) c.if-outage_zero.true))

pub returns-else-outage_zero : goal.returns-else-outage_zero
returns-else-outage_zero c =
    let a = c.args in
    let s = slots_in a.slots.now in
    let b = bounded a.head c.requires.0.head in
    sym (within_long a.head s a.agreed_versions.now a.at (c.loop-k.k + 1)
    (run_on a.head s a.agreed_versions.now a.at c.loop-k.k c.loop-k.invariant.run (omega arith)
    (runs (goal.at.returns-else-outage_zero c).Else-outage_zero))
    (omega arith) (omega (arith, b.interval_low)))

pub loop-k-preserved : goal.loop-k-preserved
loop-k-preserved c =
    let a = c.args in
    let s = slots_in a.slots.now in
    let v = a.agreed_versions.now in
    let i = a.at in
    let k = c.loop-k.k in
    let r = runs (goal.at.loop-k-preserved c).Else-outage_zero in
    let n : i + (k + 1) ≡ suc (i + k) = omega arith in
    record {
      inside = omega arith;
      run = run_on a.head s v i k c.loop-k.invariant.run (omega arith) r;
      level = rw n (run_not_zeroed a.head s v _ (i + k) refl r);
    }

pub returns : goal.returns
returns c =
    let a = c.args in
    let b = bounded a.head c.requires.0.head in
    sym (within_long a.head (slots_in a.slots.now) a.agreed_versions.now a.at
    c.loop-k.k c.loop-k.invariant.run c.loop-k-test.false (omega (arith, b.interval_low)))
