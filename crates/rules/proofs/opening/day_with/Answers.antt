-- `opening::day_with`: an interval is 30, 15 or 5.
use mathlib.Core.Bool.{true}
use mathlib.Core.Logic.{⊎_elim}
use mathlib.Core.Path.{◌≡◌, refl}
use Prim.Native.Nat.{ℕ}
use borrow.Author.Tests.{eqb-true}
use lib.Dec.{eqb}
use borrow.Author.Rules.{rules}
use Rattle.base.proofs.Logic.{or_parts}
use Rattle.rules.specs.Opening.{interval_ok, slots_per_day}
use Rattle.rules.proofs.Bounds.{bounded}
use Rattle.rules.proofs.opening.day_with.Goals as goal

five_left : (l : ℕ) → interval_ok l ≡ true → (l ≡ 15 → ⊥) → (l ≡ 30 → ⊥) → l ≡ 5
unfolding interval_ok
five_left l e n m =
    ⊎_elim (eqb-true l 5)
    (λ d. ⊎_elim (λ x. absurd (n (eqb-true l 15 x))) (λ x. absurd (m (eqb-true l 30 x))) (or_parts (eqb l 15) (eqb l 30) d))
    (or_parts (eqb l 5) _ e)

pub returns-in-30 : goal.returns-in-30
unfolding slots_per_day
returns-in-30 c = rw c.in-30.is (refl, refl)

pub returns-in-15 : goal.returns-in-15
unfolding slots_per_day
returns-in-15 c = rw c.in-15.is (refl, refl)

pub returns-in_default : goal.returns-in_default
unfolding slots_per_day
returns-in_default c =
    let n : c.args.head.interval ≡ 15 → ⊥ = search rules in
    let m : c.args.head.interval ≡ 30 → ⊥ = search rules in
    rw (five_left _ (bounded _ c.requires).interval_good n m) (refl, refl)
