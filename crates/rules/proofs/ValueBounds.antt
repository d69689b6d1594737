-- A good or S value is at most what an interval holds at 1,000,000 W, a shape 12 times as much, any filled value 99,999,999.
use mathlib.Core.Bool.{Bool, true, false, cond, ◌&&◌, false≢true}
use mathlib.Core.List.{List, [], ◌∷◌, ◌++◌}
use mathlib.Core.Logic.{⊎_elim}
use mathlib.Core.Path.{◌≡◌, refl}
use Prim.Native.Nat.{ℕ, zero, suc, ◌+◌, ◌-◌, ◌*◌, ◌/◌, ◌≤◌, zero-le}
use native.Mathlib.Nat.{div-le_of_le-mul, suc-mul, add_comm, add-le-add, mul-le-mul_left}
use native.Mathlib.Omega.{arith}
use borrow.Author.Tests.{ltb-false}
use lib.Dec.{leb, eqb}
use lib.ListN.{length, get_or, take}
use Rattle.base.proofs.Logic.{and_parts, either}
use Rattle.base.specs.Lists.{sum_of}
use Rattle.rules.specs.declared.Head.{Head}
use Rattle.std.specs.Prelude.{Some, None}
use Rattle.rules.specs.declared.tests.Cause.TheVariants.{Gap, TimeChange, Partial, Demand}
use Rattle.rules.specs.Opening.{Slots, Agreed, slots_per_day}
use Rattle.rules.specs.Tests.{is_good, time_change_bit, partial_bit, cause_of, cause_at, good_at}
use Rattle.rules.specs.Weeks.{first_back, farthest_back, weeks_within}
use Rattle.rules.specs.Filling.{is_reference, week_back, weeks_back, references, mean_of, is_linear, linear_value, from_references}
use Rattle.rules.specs.Filling.{filled_at}
use Rattle.rules.specs.Filling.{shape_of, shape_at}
use Rattle.rules.specs.Inner.Lent.{AgreedLow}
use Rattle.rules.proofs.Bounds.{Bounded, cap, cap_high, good_cap}
use Rattle.rules.proofs.Floors.{line_small}
use Rattle.rules.proofs.Runs.{place_low, linear_tells}
use Rattle.rules.proofs.Fillings.{filled_by}

-- only the last test can leave a slot good
last_test : (a b c d : Bool)
    → is_good (cond a (Some Gap) (cond b (Some TimeChange) (cond c (Some Partial) (cond d (Some Demand) None)))) ≡ true → d ≡ false
last_test true b c d e = absurd (false≢true e)
last_test false true c d e = absurd (false≢true e)
last_test false false true d e = absurd (false≢true e)
last_test false false false true e = absurd (false≢true e)
last_test false false false false e = refl

pub cond_small : (t : Bool) (x m : ℕ) → x ≤ m → cond t x 0 ≤ m
cond_small true x m p = p
cond_small false x m p = zero-le

-- every value of a list is at most m
abbrev small : ℕ → List ℕ → Type 0
small m [] = Unit {0}
small m (x ∷ xs) = (x ≤ m) × small m xs

small_take : (m n : ℕ) (xs : List ℕ) → small m xs → small m (take n xs)
small_take m zero xs p = tt
small_take m (suc n) [] p = tt
small_take m (suc n) (x ∷ xs) p = (p.0, small_take m n xs p.1)

small_join : (m : ℕ) (xs ys : List ℕ) → small m xs → small m ys → small m (xs ++ ys)
small_join m [] ys p q = q
small_join m (x ∷ xs) ys p q = (p.0, small_join m xs ys p.1 q)

small_total : (m : ℕ) (xs : List ℕ) → small m xs → sum_of xs ≤ length xs * m
unfolding sum_of
small_total m [] p = zero-le
small_total m (x ∷ xs) p = rw (suc-mul (length xs) m, add_comm (length xs * m) m) (add-le-add p.0 (small_total m xs p.1))

module _ (h : Head) (b : Bounded h) (s : Slots) where
  pub good_small : (i : ℕ) → good_at h s i ≡ true → get_or s.values i 0 ≤ cap h
  unfolding good_at cause_at cause_of
  good_small i e =
      let x = get_or s.statuses i 0 in
      let p : get_or s.values i 0 * 60 ≤ h.limit * h.interval =
      ltb-false _ _ (last_test (eqb (get_or s.versions i 0) 0) (time_change_bit x) (partial_bit x) _ e) in
      good_cap h b _ p

  line_low : (agreed : List ℕ) (i : ℕ) → is_linear h s agreed i ≡ true → linear_value h s agreed i ≤ cap h
  unfolding linear_value
  line_low agreed i e =
      let w = linear_tells h s agreed i e in
      line_small _ _ _ _ (cap h) (place_low h s agreed i) (good_small _ w.left_good) (good_small _ w.right_good)

  module _ (holidays : List ℕ) where
    reference_small : (j : ℕ) → is_reference h s holidays j ≡ true → get_or s.values j 0 ≤ cap h
    unfolding is_reference
    reference_small j e = good_small j (and_parts _ _ (and_parts _ _ e).0).0

    week_small : (first i k : ℕ) → small (cap h) (week_back h s holidays first i k)
    unfolding week_back
    week_small first i k =
        let back = (first + 7 * k) * slots_per_day h in
        let found : Bool = leb back i && is_reference h s holidays (i - back) in
        ⊎_elim (λ e. rw e (reference_small (i - back) (and_parts (leb back i) (is_reference h s holidays (i - back)) e).1, tt))
        (λ e. rw e tt)
        (either found)

    weeks_small : (first i k : ℕ) → small (cap h) (weeks_back h s holidays first i k)
    unfolding weeks_back
    weeks_small first i zero = tt
    weeks_small first i (suc k) =
        small_join (cap h) (weeks_back h s holidays first i k) (week_back h s holidays first i k) (weeks_small first i k)
        (week_small first i k)

    mean_small : (xs : List ℕ) → small (cap h) xs → (from_references xs).value ≤ cap h
    unfolding from_references mean_of
    mean_small xs p =
        ⊎_elim (λ e. rw e zero-le) (λ e. rw e (div-le_of_le-mul (length xs) (small_total (cap h) xs p))) (either (eqb (length xs) 0))

    same_day_small : (xs : List ℕ) → small (cap h) xs → shape_of (from_references xs) xs ≤ 12 * cap h
    unfolding from_references shape_of
    same_day_small xs p =
        let l : 12 * sum_of xs ≤ length xs * (12 * cap h) = omega (arith, small_total (cap h) xs p) in
        ⊎_elim (λ e. rw e zero-le) (λ e. rw e (div-le_of_le-mul (length xs) l)) (either (eqb (length xs) 0))

    references_small : (i : ℕ) → small (cap h) (references h s holidays i)
    unfolding references
    references_small i =
        let d = i / slots_per_day h in
        let first = first_back h holidays d in
        let k = weeks_within first (farthest_back holidays d) in
        small_take (cap h) 4 (weeks_back h s holidays first i k) (weeks_small first i k)

  module _ (a : Agreed) (holidays : List ℕ) (i : ℕ) where
    pub shape_small : shape_at h s a holidays i ≤ 12 * cap h
    unfolding shape_at shape_of
    shape_small =
        filled_by (λ o. shape_of o (references h s holidays i) ≤ 12 * cap h) h s a holidays i (λ _. zero-le) zero-le zero-le
        (λ g. mul-le-mul_left 12 (line_low a.versions i g)) (same_day_small holidays _ (references_small holidays i))

    pub filled_low : AgreedLow a → (filled_at h s a holidays i).value ≤ 99_999_999
    filled_low low =
        filled_by (λ o. o.value ≤ 99_999_999) h s a holidays i (λ g. omega (arith, good_small i g, cap_high h b)) (omega (arith, low i))
        zero-le
        (λ g. omega (arith, line_low a.versions i g, cap_high h b))
        (omega (arith, mean_small holidays (references h s holidays i) (references_small holidays i), cap_high h b))
