-- Sums, tests and searches over a stretch of places, and what a turn of a loop adds to them.
use mathlib.Core.Bool.{Bool, true, false, ◌&&◌, ◌||◌, or-true, false≢true}
use mathlib.Core.Logic.{⊎_elim}
use mathlib.Core.Path.{◌≡◌, refl, sym, ap, ap₂, ◌∙◌}
use Prim.Native.Nat.{ℕ, zero, suc, ◌+◌, ◌-◌, ◌≤◌, ◌<◌, zero-le}
use native.Mathlib.Nat.{add-zero, zero-add, add-suc, suc-add, eq-or-lt_of_le, le_of_suc-le-suc, not-suc-le-zero}
use native.Mathlib.Numerals.{add-one}
use native.Mathlib.Omega.{arith}
use Rattle.base.specs.Lists.{sum, all, any}
use Rattle.base.proofs.Logic.{and_parts, or_parts, both}

-- ---- Sums

-- the sum of two functions
pub sum_plus : (f g : ℕ → ℕ) (a k : ℕ) → sum (λ i. f i + g i) a k ≡ sum f a k + sum g a k
unfolding sum
sum_plus f g a zero = refl
sum_plus f g a (suc k) = omega (arith, sum_plus f g a k)

-- what agrees on the k places from a has one sum
pub sum_cong : (f g : ℕ → ℕ) (a k : ℕ) → ((i : ℕ) → a ≤ i → i < a + k → f i ≡ g i) → sum f a k ≡ sum g a k
unfolding sum
sum_cong f g a zero h = refl
sum_cong f g a (suc k) h =
    ap₂ (λ (x y : ℕ). x + y) (sum_cong f g a k (λ i l m. h i l (omega arith))) (h (a + k) (omega arith) (omega arith))

module _ (f : ℕ → ℕ) where
  -- the first term, where `sum` adds at the back
  pub sum_first : (a k : ℕ) → sum f a (suc k) ≡ f a + sum f (suc a) k
  unfolding sum
  sum_first a zero = rw (add-zero a) (omega arith)
  sum_first a (suc k) =
      let e : a + suc k ≡ suc a + k = omega arith in
      rw e (omega (arith, sum_first a k))

  -- n is the sum of the first i places, and m what the next one adds
  pub summed_on : (i n m : ℕ) → n ≡ sum f 0 i → m ≡ f i → n + m ≡ sum f 0 (i + 1)
  unfolding sum
  summed_on i n m e g = ap₂ ◌+◌ e (g ∙ ap f (sym (zero-add i))) ∙ rw add-one

module _ (f : ℕ → ℕ) (a : ℕ) where
  -- no terms, and one more
  pub sum_empty : sum f a 0 ≡ 0
  unfolding sum
  sum_empty = refl

  pub sum_more : (k : ℕ) → sum f a (k + 1) ≡ sum f a k + f (a + k)
  unfolding sum
  sum_more k = rw add-one

  -- terms that are all 0
  pub sum_none : (k : ℕ) → ((i : ℕ) → a ≤ i → i < a + k → f i ≡ 0) → sum f a k ≡ 0
  unfolding sum
  sum_none zero h = refl
  sum_none (suc k) h = rw (sum_none k (λ i l m. h i l (omega arith)), h (a + k) (omega arith) (omega arith))

  sum_adds : (j d : ℕ) → sum f a j ≤ sum f a (j + d)
  unfolding sum
  sum_adds j zero = omega (arith, ap (sum f a) (add-zero j))
  sum_adds j (suc d) = rw (add-suc j d) (omega (arith, sum_adds j d))

  -- more terms
  pub sum_grows : {j k : ℕ} → j ≤ k → sum f a j ≤ sum f a k
  sum_grows {j} {k} l =
      let e : j + (k - j) ≡ k = omega arith in
      rw e at (sum_adds j (k - j))

  -- one of the terms
  pub sum_place : (k i : ℕ) → a ≤ i → i < a + k → f i ≤ sum f a k
  unfolding sum
  sum_place k i l m =
      let e : a + (i - a) ≡ i = omega arith in
      let p : sum f a (i - a) + f (a + (i - a)) ≤ sum f a k = sum_grows {j = suc (i - a)} {k = k} (omega arith) in
      omega (arith, ap f e)

-- ---- Tests of all places

all_each : (p : ℕ → Bool) (a k : ℕ) → all p a k ≡ true → (i : ℕ) → i < k → p (a + i) ≡ true
unfolding all
all_each p a zero e i l = absurd (not-suc-le-zero l)
all_each p a (suc k) e zero l = rw add-zero (and_parts (p a) (all p (suc a) k) e).0
all_each p a (suc k) e (suc i) l =
    ap p (rw (suc-add, add-suc)) ∙ all_each p (suc a) k (and_parts (p a) (all p (suc a) k) e).1 i (le_of_suc-le-suc l)

each_all : (p : ℕ → Bool) (a k : ℕ) → ((i : ℕ) → i < k → p (a + i) ≡ true) → all p a k ≡ true
unfolding all
each_all p a zero h = refl
each_all p a (suc k) h =
    both (p a) (all p (suc a) k) (rw add-zero at (h 0 (omega arith)))
    (each_all p (suc a) k (λ i l. ap p (rw (suc-add, add-suc)) ∙ h (suc i) (omega arith)))

module _ (p : ℕ → Bool) where
  -- the places from 0 all pass exactly when each does
  pub all_at : (k : ℕ) → all p 0 k ≡ true → (i : ℕ) → i < k → p i ≡ true
  all_at k e i l = ap p (sym (zero-add i)) ∙ all_each p 0 k e i l

  pub at_all : (k : ℕ) → ((i : ℕ) → i < k → p i ≡ true) → all p 0 k ≡ true
  at_all k h = each_all p 0 k (λ i l. ap p (zero-add i) ∙ h i l)

  -- the test of what is left, from i up to k
  all_step : (i k : ℕ) → i < k → all p i (k - i) ≡ (p i && all p (i + 1) (k - (i + 1)))
  unfolding all
  all_step i k l =
      let e : k - i ≡ suc (k - (i + 1)) = omega arith in
      rw (e, add-one)

  pub all_more : (i k : ℕ) → i < k → p i ≡ true → all p i (k - i) ≡ all p (i + 1) (k - (i + 1))
  all_more i k l e = all_step i k l ∙ rw e

  pub all_fails : (i k : ℕ) → i < k → p i ≡ false → all p i (k - i) ≡ false
  all_fails i k l e = all_step i k l ∙ rw e

  pub all_done : (i k : ℕ) → k ≤ i → all p i (k - i) ≡ true
  unfolding all
  all_done i k l =
      let e : k - i ≡ 0 = omega arith in
      rw e

-- ---- Searches

-- tests that agree on the k places from a find the same
pub any_cong : (p q : ℕ → Bool) (a k : ℕ) → ((i : ℕ) → a ≤ i → i < a + k → p i ≡ q i) → any p a k ≡ any q a k
unfolding any
any_cong p q a zero h = refl
any_cong p q a (suc k) h =
    ap₂ (λ (x y : Bool). x || y) (any_cong p q a k (λ i l m. h i l (omega arith))) (h (a + k) (omega arith) (omega arith))

module _ (p : ℕ → Bool) (a : ℕ) where
  -- no places, and one more
  pub any_empty : any p a 0 ≡ false
  unfolding any
  any_empty = refl

  pub any_more : (k : ℕ) → any p a (k + 1) ≡ (any p a k || p (a + k))
  unfolding any
  any_more k = rw add-one

  pub any_on : (k : ℕ) → any p a k ≡ false → p (a + k) ≡ false → any p a (k + 1) ≡ false
  any_on k e f = any_more k ∙ rw (e, f)

  -- no place passes
  pub any_none : (k : ℕ) → ((i : ℕ) → a ≤ i → i < a + k → p i ≡ false) → any p a k ≡ false
  unfolding any
  any_none zero h = refl
  any_none (suc k) h = rw (any_none k (λ i l m. h i l (omega arith)), h (a + k) (omega arith) (omega arith))

  -- a place that passes
  pub any_place : (k : ℕ) → any p a k ≡ true → (i : ℕ) × (a ≤ i) × (i < a + k) × (p i ≡ true)
  unfolding any
  any_place zero e = absurd (false≢true e)
  any_place (suc k) e =
      ⊎_elim (λ d. let (i, l, m, q) = any_place k d in (i, l, omega arith, q)) (λ d. (a + k, omega arith, omega arith, d))
      (or_parts _ _ e)

  -- one place that passes is enough
  pub any_some : (k i : ℕ) → a ≤ i → i < a + k → p i ≡ true → any p a k ≡ true
  unfolding any
  any_some zero i l m e = absurd (omega arith)
  any_some (suc k) i l m e =
      ⊎_elim (λ z. rw (← z, e, or-true)) (λ n. rw (any_some k i l (omega arith) e))
      (eq-or-lt_of_le (le_of_suc-le-suc (rw add-suc at m)))

-- the same from place 0
module _ (p : ℕ → Bool) where
  pub none_on : (i : ℕ) → any p 0 i ≡ false → p i ≡ false → any p 0 (i + 1) ≡ false
  none_on i e f = any_on p 0 i e (rw zero-add f)

  pub one_found : (i n : ℕ) → i < n → p i ≡ true → any p 0 n ≡ true
  one_found i n l e = any_some p 0 n i zero-le (rw zero-add l) e
