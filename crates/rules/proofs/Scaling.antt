-- In a scaled span V and the new values add up to R.
use mathlib.Core.Bool.{Bool, true, false}
use mathlib.Core.Path.{◌≡◌, refl}
use Prim.Native.Nat.{ℕ, suc, ◌+◌, ◌-◌, ◌≤◌, ◌<◌}
use native.Mathlib.Omega.{arith}
use borrow.Author.Tests.{eqb-true, eqb-false}
use Rattle.base.specs.Lists.{sum, any}
use Rattle.base.proofs.Sums.{sum_cong, sum_grows, sum_place, any_place}
use Rattle.rules.specs.declared.Head.{Head}
use Rattle.rules.specs.declared.Outcome.{Outcome}
use Rattle.rules.specs.Opening.{Cells}
use Rattle.rules.specs.Spans.{is_s, filled, shape, start, slots_in, R, actual_sum, T, all_zero, e, E, C, P, new_value}
use Rattle.rules.proofs.Shapes.{shape_of_s}
use Rattle.rules.proofs.Shares.{share_high, share_whole, telescope}

module _ (h : Head) (b : Cells) (first last : ℕ) where
  abbrev before : ℕ → Outcome
  before i = filled h b first last i

  abbrev a : ℕ
  a = start h b first last

  abbrev k : ℕ
  k = slots_in h b first last

  -- C = P + e
  pub running : (i : ℕ) → a ≤ i → C h b first last i ≡ P h b first last i + e h b first last i
  unfolding C P sum
  running i l =
      let c : i + 1 - a ≡ suc (i - a) = omega arith in
      let d : a + (i - a) ≡ i = omega arith in
      rw (c, d)

  -- a slot that is not S gets nothing of T
  pub new_zero : (i : ℕ) → a ≤ i → is_s (before i).quality ≡ false → new_value h b first last i ≡ 0
  unfolding new_value e
  new_zero i l q =
      let z : e h b first last i ≡ 0 = rw q in
      let r : C h b first last i ≡ P h b first last i = omega (arith, running i l) in
      rw r (omega arith)

  -- a new value is at most R
  pub new_high : (i : ℕ) → i < a + k → new_value h b first last i ≤ R h b first last
  unfolding new_value T C E
  new_high i l =
      let p : C h b first last i ≤ E h b first last = sum_grows (e h b first last) a {j = i + 1 - a} {k = k} (omega arith) in
      omega (arith, share_high (T h b first last) (C h b first last i) (E h b first last) p)

  not_all_zero : all_zero h b first last ≡ false → sum (shape h b first last) a k ≡ 0 → ⊥
  unfolding all_zero
  not_all_zero z = eqb-false _ _ z

  -- each of them is 0 where they sum to 0
  pub zero_each : all_zero h b first last ≡ true → (i : ℕ) → a ≤ i → i < a + k → shape h b first last i ≡ 0
  unfolding all_zero
  zero_each z i l m =
      let n : sum (shape h b first last) a k ≡ 0 = eqb-true _ _ z in
      omega (arith, sum_place (shape h b first last) a k i l m)

  -- with an S slot E is above 0
  pub shape_positive : any (λ i. is_s (before i).quality) a k ≡ true → 0 < E h b first last
  unfolding E e
  shape_positive t = go (all_zero h b first last) refl (any_place _ a k t)
    where
      go : (z : Bool) → all_zero h b first last ≡ z
          → (i : ℕ) × (a ≤ i) × (i < a + k) × (is_s (before i).quality ≡ true) → 0 < sum (e h b first last) a k
      go true z (i, l, m, q) =
          let one : e h b first last i ≡ 1 = rw (q, z) in
          omega (arith, sum_place (e h b first last) a k i l m)
      go false z found =
          let same : sum (e h b first last) a k ≡ sum (shape h b first last) a k =
          sum_cong _ _ _ _ (λ i l m. rw z (shape_of_s h b.slots b.agreed b.holidays i)) in
          let n = not_all_zero z in
          omega arith

  pub new_total : any (λ i. is_s (before i).quality) a k ≡ true → actual_sum h b first last ≤ R h b first last
      → actual_sum h b first last + sum (new_value h b first last) a k ≡ R h b first last
  unfolding new_value C P E T
  new_total t l =
      let p = shape_positive t in
      omega (
        arith,
        telescope (e h b first last) (T h b first last) (E h b first last) a k p,
        share_whole (T h b first last) (E h b first last) p,
      )
