-- What the two calls answer, and what they leave in their output.
use Rattle.std.specs.Prelude.{Result, Ok, Err}
use mathlib.Core.Bool.{Bool, true, false, not, ◌&&◌, and-true}
use mathlib.Core.List.{List, [], ◌∷◌}
use mathlib.Core.Path.{◌≡◌, refl, sym}
use Prim.Native.Nat.{ℕ}
use native.Mathlib.Omega.{arith}
use borrow.Author.Tests.{eqb-true}
use lib.Dec.{eqb}
use lib.ListN.{length}
use Rattle.base.specs.declared.Refusal.{Refusal}
use Rattle.base.specs.declared.Refusal.TheVariants.{OutsideBounds, WrongTable}
use Rattle.base.specs.Refusals.{Rule, answered, tested}
use Rattle.base.specs.Refusals.Rule.{rule}
use Rattle.base.proofs.Logic.{and_parts}
use Rattle.rules.specs.Opening.{interval_ok}
use Rattle.rules.proofs.Bounds.{interval_bounds}
use Rattle.strips.specs.Strips.{per_day, whole_days, lengths_ok, laid_rules, laid_answer, laid_after}
use Rattle.strips.specs.Inner.Laying.{Sized}
use Rattle.strips.proofs.Lengths.{whole_records}

-- a refusal does not depend on what is answered without one
refused_alike : {X Y : Type 0} (rules : List Rule) (x : X) (y : Y) (r : Refusal) → answered rules x ≡ Err r → answered rules y ≡ Err r
refused_alike [] x y r e = cc
refused_alike (rule q true ∷ rules) x y r e = cc
refused_alike (rule q false ∷ rules) x y r e = refused_alike rules x y r e

both_passed : (a b : Bool) (x n : ℕ) → answered (rule OutsideBounds (not a) ∷ rule WrongTable (not b) ∷ []) x ≡ Ok n
    → (n ≡ x) × (a ≡ true) × (b ≡ true)
both_passed true true x n e = (cc, refl, refl)
both_passed true false x n e = (cc, cc, cc)
both_passed false b x n e = (cc, cc, cc)

module _ (interval : ℕ) (given out : List ℕ) where
  -- an answer, and the output after it
  abbrev Left : Result (Unit {0}) Refusal → List ℕ → List ℕ → Type 0
  Left a laid after = (a ≡ laid_answer interval (length given) (length out)) × (after ≡ laid_after interval given laid out)

  -- what is answered in place of n is the call's answer
  pub refuses : (laid : List ℕ) (r : Refusal) → answered (laid_rules interval (length given) (length out)) (per_day interval) ≡ Err r
      → Left (Err r) laid out
  unfolding laid_answer laid_after
  refuses laid r e =
      let rules = laid_rules interval (length given) (length out) in
      let f : tested rules ≡ Err r = refused_alike rules (per_day interval) tt r e in
      (sym f, rw f)

  pub accepts : (laid after : List ℕ) → interval_ok interval ≡ true → lengths_ok (per_day interval) (length given) (length out) ≡ true
      → after ≡ laid → Left (Ok tt) laid after
  unfolding laid_answer laid_after
  accepts laid after e f g = rw (e, f) (refl, g)

  -- where n is answered, the call is accepted
  pub accepts_days : (laid after : List ℕ) (n : ℕ) → answered (laid_rules interval (length given) (length out)) (per_day interval) ≡ Ok n
      → after ≡ laid → Left (Ok tt) laid after
  accepts_days laid after n e g = let (_, f, h) = both_passed _ _ _ _ e in accepts laid after f h g

  -- what it is given then
  pub sized : (n : ℕ) → answered (laid_rules interval (length given) (length out)) (per_day interval) ≡ Ok n
      → (n ≡ per_day interval) × Sized n given out
  unfolding lengths_ok
  sized n e =
      let (same, f, h) = both_passed (interval_ok interval) (lengths_ok (per_day interval) (length given) (length out)) _ _ e in
      let (whole, room) = and_parts (whole_days (per_day interval) (length given)) (eqb (length out) (length given) && true) h in (
        same,
        record {
          positive = rw same (omega (arith, interval_bounds interval f));
          whole = whole_records (per_day interval) (length given) whole;
          room = eqb-true (length out) (length given) (rw and-true at room);
        },
      )
