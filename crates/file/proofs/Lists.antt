-- Sums over lists of what a function gives.
use mathlib.Core.Path.{◌≡◌, refl, sym, ap, ◌∙◌}
use mathlib.Core.List.{List, [], ◌∷◌}
use Prim.Native.Nat.{ℕ, zero, suc, ◌+◌, ◌*◌, ◌≤◌, ◌<◌}
use native.Mathlib.Nat.{mul-suc}
use native.Mathlib.Omega.{arith}
use lib.ListN.{length, get_or}
use Rattle.base.specs.Lists.{sum, up_to}
use Rattle.base.proofs.Sums.{sum_first}
use Rattle.rules.specs.declared.Outcome.{Outcome}
use Rattle.file.specs.Layout.{total}

-- the sum over such a list
pub total_sum : (g : Outcome → ℕ) (f : ℕ → Outcome) (a k : ℕ) → total g (up_to f a k) ≡ sum (λ i. g (f i)) a k
unfolding total up_to
total_sum g f a zero = unfold sum in refl
total_sum g f a (suc k) = ap (λ (y : ℕ). g (f a) + y) (total_sum g f (suc a) k) ∙ sym (sum_first (λ i. g (f i)) a k)

-- a sum over a list is at most b for each element
pub total_le : (g : Outcome → ℕ) (b : ℕ) (d : Outcome) (os : List Outcome) → ((i : ℕ) → i < length os → g (get_or os i d) ≤ b)
    → total g os ≤ b * length os
unfolding total
total_le g b d [] h = omega arith
total_le g b d (o ∷ os) h =
    rw mul-suc (omega (arith, h 0 (omega arith), total_le g b d os (λ i l. h (suc i) (omega arith))))
