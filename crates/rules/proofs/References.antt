-- The search for references week by week, and what is made of them.
use mathlib.Core.Bool.{Bool, true, false, cond}
use mathlib.Core.List.{List, [], ◌∷◌, ◌++◌, append_assoc, append-nil}
use mathlib.Core.Logic.{⊎_elim}
use mathlib.Core.Path.{◌≡◌, refl, sym, ap, ◌∙◌}
use Prim.Native.Nat.{ℕ, zero, suc, ◌+◌, ◌-◌, ◌*◌, ◌/◌, ◌≤◌, ◌<◌}
use native.Mathlib.Numerals.{add-one}
use native.Mathlib.Omega.{arith}
use borrow.Author.Tests.{le-ltb, ltb-true, ltb-false, leb-true, leb-false, le-leb, lt-leb, eq-eqb, ne_eqb}
use lib.Dec.{leb, ltb}
use lib.ListN.{length, get_or, take}
use native.Mathlib.Nat.{add-mul, mul-le-mul_right}
use Rattle.base.proofs.Logic.{either}
use Rattle.base.specs.Lists.{sum_of}
use Rattle.rules.specs.declared.Head.{Head}
use Rattle.rules.specs.declared.Quality.TheVariants.{S, N}
use Rattle.rules.specs.Opening.{Slots, slots_per_day}
use Rattle.rules.specs.Weeks.{first_back, farthest_back, weeks_within}
use Rattle.rules.specs.Filling.{is_reference, week_back, weeks_back, references, mean_of, from_references}
use Rattle.rules.specs.References.{each_week, each_reference}
use Rattle.rules.specs.Inner.Ways.{value_of}
use Rattle.rules.proofs.Weekly.{each_none, each_out}

-- one more element
total_suc : (l : List ℕ) (i : ℕ) → sum_of (take i l) + get_or l i 0 ≡ sum_of (take (suc i) l)
unfolding sum_of
total_suc [] zero = refl
total_suc [] (suc i) = refl
total_suc (x ∷ l) zero = omega arith
total_suc (x ∷ l) (suc i) = omega (arith, total_suc l i)

pub total_next : (l : List ℕ) (i sum : ℕ) → sum ≡ sum_of (take i l) → sum + get_or l i 0 ≡ sum_of (take (i + 1) l)
total_next l i sum e = rw (e, add-one) (total_suc l i)

-- the weeks counted are exactly those that are not too far
pub week_within : (first farthest k : ℕ) → first ≤ 7
    → (k < weeks_within first farthest → first + 7 * k ≤ farthest) × (first + 7 * k ≤ farthest → k < weeks_within first farthest)
unfolding weeks_within
week_within first farthest k l = (λ x. omega arith, λ x. omega arith)

-- a slot on no holiday keeps its 7, 14, .. 364 days
pub no_holiday : (h : Head) (s : Slots) (holidays : List ℕ) (i : ℕ) → get_or holidays (i / slots_per_day h) 0 ≡ 0
    → references h s holidays i ≡ take 4 (weeks_back h s holidays 7 i 52)
unfolding references first_back farthest_back weeks_within
no_holiday h s holidays i e = simp (eq-eqb _ _ e)

-- ---- A search week by week finds the values of the weeks at their places

-- an element more, or none
piece : (t : Bool) (x : ℕ) (xs : List ℕ) → cond t (x ∷ xs) xs ≡ cond t (x ∷ []) [] ++ xs
piece true x xs = refl
piece false x xs = refl

module _ (h : Head) (s : Slots) (holidays : List ℕ) where
  abbrev week : ℕ → ℕ → ℕ → List ℕ
  week days j k = week_back h s holidays days j k

  abbrev search : ℕ → ℕ → ℕ → List ℕ
  search days j k = each_week (value_of s) h s holidays days j k

  -- k weeks behind 7 days before the slot `days` days before slot j are k + 1 weeks behind those days before slot j
  week_later : (days j k : ℕ) → days * slots_per_day h ≤ j → week 7 (j - days * slots_per_day h) k ≡ week days j (suc k)
  unfolding week_back
  week_later days j k l =
      let n : ℕ = slots_per_day h in
      let sum : days + 7 * suc k ≡ days + (7 + 7 * k) = omega arith in
      let split : (days + 7 * suc k) * n ≡ days * n + (7 + 7 * k) * n = rw (sum, add-mul days (7 + 7 * k) n) in
      let place : j - days * n - (7 + 7 * k) * n ≡ j - (days + 7 * suc k) * n = omega arith in
      ⊎_elim
      (λ t.
      let inside = leb-true ((days + 7 * suc k) * n) j t in
      rw (t, place, le-leb ((7 + 7 * k) * n) (j - days * n) (omega arith)))
      (λ t.
      let out = leb-false ((days + 7 * suc k) * n) j t in
      rw (t, lt-leb ((7 + 7 * k) * n) (j - days * n) (omega arith)))
      (either (leb ((days + 7 * suc k) * n) j))

  week_out : (days j k : ℕ) → j < days * slots_per_day h → week days j k ≡ []
  unfolding week_back
  week_out days j k l =
      let more : days ≤ days + 7 * k = omega arith in
      rw (lt-leb ((days + 7 * k) * slots_per_day h) j (omega (arith, mul-le-mul_right (slots_per_day h) more)))

  -- the first week of a search, and its last
  search_first : (days j k : ℕ) → days * slots_per_day h ≤ j → search days j (suc k) ≡ week days j 0 ++ search 7
      (j - days * slots_per_day h) k
  unfolding each_week week_back
  search_first days j k l =
      let none : days + 7 * 0 ≡ days = omega arith in
      rw (none, le-ltb j (days * slots_per_day h) l, le-leb (days * slots_per_day h) j l)
      (piece (is_reference h s holidays (j - days * slots_per_day h)) _ _)

  -- where it looks at no slot
  last_out : (k days j : ℕ) → j < days * slots_per_day h → search days j (suc k) ≡ search days j k ++ week days j k
  last_out k days j l =
      rw (each_out (value_of s) h s holidays days j (suc k) l, each_out (value_of s) h s holidays days j k l, week_out days j k l)

  search_last : (k days j : ℕ) → search days j (suc k) ≡ search days j k ++ week days j k
  search_last zero days j =
      ⊎_elim (λ t. last_out 0 days j (ltb-true _ _ t))
      (λ t.
      search_first days j 0 (ltb-false _ _ t)
      ∙ rw (each_none (value_of s) h s holidays 7 (j - days * slots_per_day h), each_none (value_of s) h s holidays days j)
      (append-nil (week days j 0)))
      (either (ltb j (days * slots_per_day h)))
  search_last (suc k) days j =
      ⊎_elim (λ t. last_out (suc k) days j (ltb-true _ _ t))
      (λ t.
      let l : days * slots_per_day h ≤ j = ltb-false _ _ t in
      search_first days j (suc k) l
      ∙ rw (search_first days j k l, search_last k 7 (j - days * slots_per_day h), week_later days j k l)
      (sym (append_assoc (week days j 0) (search 7 (j - days * slots_per_day h) k) (week days j (suc k)))))
      (either (ltb j (days * slots_per_day h)))

  weeks_are : (first i k : ℕ) → weeks_back h s holidays first i k ≡ search first i k
  unfolding weeks_back each_week
  weeks_are first i zero = refl
  weeks_are first i (suc k) = ap (λ (xs : List ℕ). xs ++ week first i k) (weeks_are first i k) ∙ sym (search_last k first i)

  -- the references that are searched for
  pub references_searched : (i : ℕ) → references h s holidays i
      ≡ take 4 (search (first_back h holidays (i / slots_per_day h)) i
      (weeks_within (first_back h holidays (i / slots_per_day h)) (farthest_back holidays (i / slots_per_day h))))
  unfolding references
  references_searched i = ap (take 4) (weeks_are _ i _)

  -- they are what is kept of each, where that is its value
  pub values_each : (i : ℕ) → each_reference (value_of s) h s holidays i ≡ references h s holidays i
  unfolding each_reference
  values_each i = sym (references_searched i)

-- no reference, or the mean
pub from_none : (xs : List ℕ) → length xs ≡ 0 → from_references xs ≡ record { value = 0; quality = N; method = 0 }
unfolding from_references
from_none xs e = simp (eq-eqb _ _ e)

pub from_some : (xs : List ℕ) → (length xs ≡ 0 → ⊥) → from_references xs ≡ record { value = mean_of xs; quality = S; method = 3 }
unfolding from_references
from_some xs e = simp (ne_eqb _ _ e)
