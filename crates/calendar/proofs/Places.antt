-- A number below a sum of lengths lies in one of them, and `place` finds which.
use mathlib.Core.Logic.{⊎_elim}
use mathlib.Core.Path.{◌≡◌, refl, ◌∙◌}
use Prim.Native.Nat.{ℕ, zero, suc, ◌+◌, ◌-◌, ◌≤◌, ◌<◌, zero-le}
use native.Mathlib.Nat.{add-zero, zero-add, eq-or-lt_of_le, le_of_suc-le-suc, le_refl, not-suc-le-zero}
use native.Mathlib.Numerals.{add-one}
use native.Mathlib.Omega.{arith}
use borrow.Author.Tests.{ltb-true, ltb-false, lt-ltb, le-ltb}
use lib.Dec.{ltb}
use Rattle.base.specs.Lists.{sum}
use Rattle.base.proofs.Logic.{either}
use Rattle.base.proofs.Sums.{sum_first}
use Rattle.calendar.specs.Calendar.{place}

-- n lies r past the start of length a + j, where j is at most k
pub record Within (f : ℕ → ℕ) (a k n : ℕ) : Type 0 where
  pub j : ℕ
  pub r : ℕ
  pub near : j ≤ k
  pub short : r < f (a + j)
  pub whole : sum f a j + r ≡ n

module _ (f : ℕ → ℕ) where
  pub place_here : (k a n : ℕ) → n < f a → place f k a n ≡ record { at = a; left = n }
  unfolding place
  place_here zero a n h = refl
  place_here (suc k) a n h = rw (lt-ltb n (f a) h)

  place_on : (k a n : ℕ) → f a ≤ n → place f (suc k) a n ≡ place f k (suc a) (n - f a)
  unfolding place
  place_on k a n h = rw (le-ltb n (f a) h)

  -- one turn of a loop that goes up to `end`
  pub place_next : (end a n : ℕ) → a < end → f a ≤ n → place f (end - a) a n ≡ place f (end - (a + 1)) (a + 1) (n - f a)
  place_next end a n l h =
      let e : end - a ≡ suc (end - suc a) = omega arith in
      rw (e, add-one) (place_on (end - suc a) a n h)

  -- where the loop has come there
  pub place_end : (end a n : ℕ) → a ≡ end → place f (end - a) a n ≡ record { at = end; left = n }
  unfolding place
  place_end end a n e =
      let z : end - a ≡ 0 = omega arith in
      rw (z, e)

  pub left_small : (k a n : ℕ) → (place f k a n).left ≤ n
  unfolding place
  left_small zero a n = le_refl n
  left_small (suc k) a n = ⊎_elim (λ e. rw e (le_refl n)) (λ e. rw e (omega (arith, left_small k (suc a) (n - f a)))) (either (ltb n (f a)))

  pub found : (j k a r : ℕ) → j ≤ k → r < f (a + j) → place f k a (sum f a j + r) ≡ record { at = a + j; left = r }
  unfolding sum
  found zero k a r l h = rw (zero-add, add-zero) (place_here k a r (rw add-zero at h))
  found (suc j) zero a r l h = absurd (not-suc-le-zero l)
  found (suc j) (suc k) a r l h =
      let e : a + suc j ≡ suc a + j = omega arith in
      let s : sum f a (suc j) + r - f a ≡ sum f (suc a) j + r = omega (arith, sum_first f a j) in
      place_on k a (sum f a (suc j) + r) (omega (arith, sum_first f a j))
      ∙ rw (s, e) (found j k (suc a) r (le_of_suc-le-suc l) (rw e at h))

  pub below : (j k a r : ℕ) → j ≤ k → r < f (a + j) → sum f a j + r < sum f a (suc k)
  unfolding sum
  below j zero a r l h =
      let e : j ≡ 0 = omega arith in
      rw e (omega (arith, rw e at h))
  below j (suc k) a r l h =
      ⊎_elim (λ e. rw e (omega (arith, rw e at h))) (λ q. omega (arith, below j k a r (le_of_suc-le-suc q) h)) (eq-or-lt_of_le l)

  pub within : (k a n : ℕ) → n < sum f a (suc k) → Within f a k n
  unfolding sum
  within zero a n h = record { j = 0; r = n; near = zero-le; short = omega arith; whole = omega arith }
  within (suc k) a n h =
      ⊎_elim (λ e. further (within k a n (ltb-true n (sum f a (suc k)) e))) (λ e. last (ltb-false n (sum f a (suc k)) e))
      (either (ltb n (sum f a (suc k))))
    where
      further : Within f a k n → Within f a (suc k) n
      further w = record { j = w.j; r = w.r; near = omega arith; short = w.short; whole = w.whole }

      last : sum f a (suc k) ≤ n → Within f a (suc k) n
      last l = record { j = suc k; r = n - sum f a (suc k); near = omega arith; short = omega arith; whole = omega arith }
