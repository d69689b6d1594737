-- The shape of a slot (02, W7): that of a same-day slot is whole, and a slot that is not S has none.
use mathlib.Core.Bool.{true}
use mathlib.Core.List.{List, [], ◌∷◌}
use mathlib.Core.Logic.{⊎_elim}
use mathlib.Core.Path.{◌≡◌, refl, sym, ap}
use Prim.Native.Nat.{ℕ, zero, suc, ◌*◌, ◌/◌, ◌≤◌, zero-le}
use native.Mathlib.Nat.{mul-div_cancel}
use native.Mathlib.Omega.{arith}
use borrow.Author.Tests.{eqb-false}
use lib.Dec.{eqb}
use lib.ListN.{length, take}
use Rattle.base.proofs.Logic.{either}
use Rattle.base.specs.Lists.{sum_of}
use Rattle.rules.specs.declared.Head.{Head}
use Rattle.rules.specs.declared.Outcome.{Outcome}
use Rattle.rules.specs.Opening.{Slots, Agreed, slots_per_day}
use Rattle.rules.specs.Tests.{good_at}
use Rattle.rules.specs.Weeks.{first_back, farthest_back, weeks_within}
use Rattle.rules.specs.Filling.{weeks_back, references, from_references, filled_at, shape_of, shape_at}
use Rattle.rules.specs.Inner.Summaries.{shape_in}
use Rattle.rules.proofs.Fillings.{filled_by}
use Rattle.rules.proofs.Qualities.{Filled, filled_form}
use Rattle.rules.proofs.Qualities.Filled.{delivered, agreed, outage, linear, same_day, nothing}

-- 12 × sum / number is whole
pub shape_whole : (number sum : ℕ) → 1 ≤ number → number ≤ 4 → 12 * sum / number * number ≡ 12 * sum
shape_whole zero sum p q = absurd (omega arith)
shape_whole (suc zero) sum p q = omega arith
shape_whole (suc (suc zero)) sum p q = omega arith
shape_whole (suc (suc (suc zero))) sum p q = omega arith
shape_whole (suc (suc (suc (suc zero)))) sum p q = omega arith
shape_whole (suc (suc (suc (suc (suc n))))) sum p q = absurd (omega arith)

-- what times the number gives 12 × sum
pub shape_exact : (v number sum : ℕ) → 1 ≤ number → v * number ≡ 12 * sum → v ≡ 12 * sum / number
shape_exact v number sum p e = rw (← e) (sym (mul-div_cancel v p))

take_few : (n : ℕ) (xs : List ℕ) → length (take n xs) ≤ n
take_few zero xs = zero-le
take_few (suc n) [] = zero-le
take_few (suc n) (x ∷ xs) = omega (arith, take_few n xs)

pub references_few : (h : Head) (s : Slots) (holidays : List ℕ) (i : ℕ) → length (references h s holidays i) ≤ 4
unfolding references
references_few h s holidays i =
    let d = i / slots_per_day h in
    let first = first_back h holidays d in
    take_few 4 (weeks_back h s holidays first i (weeks_within first (farthest_back holidays d)))

-- a slot that is not S has none
shape_only : {o : Outcome} → Filled o → (xs : List ℕ) → shape_in o (shape_of o xs) ≡ shape_of o xs
unfolding shape_of
shape_only (delivered v) xs = refl
shape_only (agreed v) xs = refl
shape_only outage xs = refl
shape_only (linear v) xs = refl
shape_only (same_day v) xs = refl
shape_only nothing xs = refl

module _ (h : Head) (s : Slots) (a : Agreed) (holidays : List ℕ) (i : ℕ) where
  abbrev found : List ℕ
  found = references h s holidays i

  -- where o is the slot
  pub shape_filled : (o : Outcome) → o ≡ filled_at h s a holidays i → shape_of o found ≡ shape_at h s a holidays i
  unfolding shape_at
  shape_filled o e = ap (λ (x : Outcome). shape_of x found) e

  pub shape_good : good_at h s i ≡ true → 0 ≡ shape_at h s a holidays i
  unfolding shape_at shape_of filled_at
  shape_good g = rw g

  pub shape_of_s : shape_in (filled_at h s a holidays i) (shape_at h s a holidays i) ≡ shape_at h s a holidays i
  unfolding shape_at
  shape_of_s = shape_only (filled_form h s a holidays i) found

  found_some : (filled_at h s a holidays i).method ≡ 3 → 1 ≤ length found
  unfolding from_references
  found_some =
      filled_by (λ o. o.method ≡ 3 → 1 ≤ length found) h s a holidays i (λ _ e. absurd (omega arith)) (λ e. absurd (omega arith))
      (λ e. absurd (omega arith))
      (λ _ e. absurd (omega arith))
      (⊎_elim (λ t. rw t (λ e. absurd (omega arith))) (λ t. rw t (λ _. let n : length found ≡ 0 → ⊥ = eqb-false _ _ t in omega arith))
      (either (eqb (length found) 0)))

  -- the shape of a same-day slot times the number of its references is 12 × their sum
  pub same_day_whole : (filled_at h s a holidays i).method ≡ 3 → shape_at h s a holidays i * length found ≡ 12 * sum_of found
  unfolding shape_at shape_of
  same_day_whole e = rw e (shape_whole (length found) (sum_of found) (found_some e) (references_few h s holidays i))
