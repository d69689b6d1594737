-- The totals day by day, and that they fit.
use mathlib.Core.Bool.{true, cond, and-false}
use mathlib.Core.List.{List, ◌∷◌}
use mathlib.Core.Logic.{⊎_elim}
use mathlib.Core.Path.{◌≡◌, refl, sym, ap, ◌∙◌}
use Prim.Native.Nat.{ℕ, zero, suc, ◌+◌, ◌-◌, ◌*◌, ◌/◌, ◌^◌, ◌≤◌, ◌<◌}
use native.Mathlib.Nat.{add-zero, add-suc, add_assoc, zero-add, zero-mul, suc-mul, add-mul, mul_comm, mul-le-mul, mul-le-mul_right}
use native.Mathlib.Omega.{arith}
use borrow.Author.Tests.{le-leb, lt-leb, lt-ltb, le-ltb, leb-true, leb-false, ltb-true, ltb-false}
use lib.Dec.{leb, ltb}
use lib.ListN.{length, get_or, replicate}
use Rattle.base.specs.Lists.{sum, up_to}
use Rattle.base.proofs.Lists.{length_up_to, up_to_cong, get_d_up_to}
use Rattle.base.proofs.Logic.{either, and_parts}
use Rattle.base.proofs.Sums.{all_at}
use Rattle.rules.proofs.Summaries.{sum_small}
use Rattle.file.specs.Reader.{slot_at, figures}
use Rattle.file.specs.Contents.{Bytes}
use Rattle.file.proofs.Offsets.{value_lt}
use Rattle.totals.specs.Stays.{stay_total, pair_count, first_of, end_of, totals_of, pair_ok, pairs_ok}
use Rattle.totals.specs.Inner.Adding.{holds, with_day, Room, least, totals_before}

sum_join : (f : ℕ → ℕ) (a j k : ℕ) → sum f a (j + k) ≡ sum f a j + sum f (a + j) k
unfolding sum
sum_join f a j zero = rw (add-zero j) (omega arith)
sum_join f a j (suc k) = rw (add-suc j k, sum_join f a j k, ← add_assoc a j k) (omega arith)

-- lists of what two functions give at the first c places
same_up_to : (f g : ℕ → ℕ) (c : ℕ) → ((k : ℕ) → k < c → f k ≡ g k) → up_to f 0 c ≡ up_to g 0 c
same_up_to f g c h = up_to_cong f g 0 c (λ k l. h k (rw zero-add at l))

least_second : (a b : ℕ) → b ≤ a → least a b ≡ b
least_second a b l = ⊎_elim (λ e. rw e (omega (arith, leb-true a b e))) (λ e. rw e) (either (leb a b))

least_first : (a b : ℕ) → a ≤ b → least a b ≡ a
least_first a b l = rw (le-leb a b l)

least_le : (a b : ℕ) → least a b ≤ b
least_le a b = ⊎_elim (λ e. rw e (leb-true a b e)) (λ e. rw e (omega arith)) (either (leb a b))

-- day d's slots lie in the table
pub day_within : (n d days : ℕ) → d < days → d * n + n ≤ n * days
day_within n d days l = rw (← suc-mul d n, mul_comm n days) (mul-le-mul_right n l)

-- a day's energy
abbrev energy_of : List ℕ → ℕ → ℕ → ℕ
energy_of bs n d = sum (λ i. (slot_at bs i).value) (d * n) n

zeros : (k a : ℕ) → replicate {A = ℕ} k 0 ≡ up_to (λ _. 0) a k
unfolding up_to
zeros zero a = refl
zeros (suc k) a = ap (λ (xs : List ℕ). 0 ∷ xs) (zeros k (suc a))

-- one stay
module _ (bs : List ℕ) (n first : ℕ) where
  stay_none : (end : ℕ) → end ≤ first → stay_total bs n first end ≡ 0
  unfolding stay_total sum
  stay_none end l =
      let e : end - first ≡ 0 = omega arith in
      rw (e, zero-mul)

  stay_more : (d : ℕ) → first ≤ d → stay_total bs n first (d + 1) ≡ stay_total bs n first d + energy_of bs n d
  unfolding stay_total
  stay_more d l =
      let e : d + 1 - first ≡ suc (d - first) = omega arith in
      let s : first + (d - first) ≡ d = omega arith in
      let m : first * n + (d - first) * n ≡ d * n = sym (add-mul first (d - first) n) ∙ ap (λ (x : ℕ). x * n) s in
      rw (e, suc-mul) (sum_join _ (first * n) ((d - first) * n) n ∙ rw m)

  -- what day d adds
  abbrev Next : ℕ → ℕ → Type 0
  Next end d = stay_total bs n first (least end d) + cond (holds first end d) (energy_of bs n d) 0 ≡ stay_total bs n first
      (least end (d + 1))

  stay_next : (end d : ℕ) → Next end d
  stay_next end d =
      ⊎_elim
      (λ a. ⊎_elim (λ b. inside (leb-true first d a) (ltb-true d end b)) (λ b. after (ltb-false d end b)) (either (ltb d end)))
      (λ a. before (leb-false first d a))
      (either (leb first d))
    where
      inside : first ≤ d → d < end → Next end d
      inside p q =
          rw (le-leb first d p, lt-ltb d end q, least_second end d (omega arith), least_second end (d + 1) (omega arith))
          (sym (stay_more d p))

      after : end ≤ d → Next end d
      after p = rw (le-ltb d end p, and-false, least_first end d p, least_first end (d + 1) (omega arith), add-zero)

      before : d < first → Next end d
      before p =
          rw (
            lt-leb first d p,
            stay_none (least end d) (omega (arith, least_le end d)),
            stay_none (least end (d + 1)) (omega (arith, least_le end (d + 1))),
          )

  stay_small : Bytes bs → n ≤ 288 → (end : ℕ) → end ≤ 400 → stay_total bs n first end ≤ 115200 * 2 ^ 32
  unfolding stay_total
  stay_small b few end l =
      let days : end - first ≤ 400 = omega arith in
      let slots : (end - first) * n ≤ 400 * 288 = mul-le-mul days few in
      omega (arith, sum_small (λ i. (slot_at bs i).value) (2 ^ 32) (λ i. omega (arith, value_lt bs b i)) (first * n) ((end - first) * n))

-- all stays
module _ (bs : List ℕ) (n : ℕ) (pairs : List ℕ) where
  pub before_none : (totals : List ℕ) → length totals ≡ pair_count pairs → replicate {A = ℕ} (length totals) 0 ≡ totals_before bs n pairs 0
  unfolding totals_before
  before_none totals e =
      rw (e, zeros (pair_count pairs) 0) (same_up_to _ _ (pair_count pairs)
      (λ k l. sym (stay_none bs n (first_of pairs k) (least (end_of pairs k) 0) (omega (arith, least_le (end_of pairs k) 0)))))

  pub before_length : (d : ℕ) → length (totals_before bs n pairs d) ≡ pair_count pairs
  unfolding totals_before
  before_length d = length_up_to _ 0 (pair_count pairs)

  before_at : (d k : ℕ) → k < pair_count pairs
      → get_or (totals_before bs n pairs d) k 0 ≡ stay_total bs n (first_of pairs k) (least (end_of pairs k) d)
  unfolding totals_before
  before_at d k l =
      get_d_up_to _ 0 0 (pair_count pairs) k l ∙ ap (λ (j : ℕ). stay_total bs n (first_of pairs j) (least (end_of pairs j) d)) (zero-add k)

  pub before_next : (d energy : ℕ) (totals next : List ℕ) → energy ≡ energy_of bs n d → totals ≡ totals_before bs n pairs d
      → next ≡ with_day pairs totals d energy → next ≡ totals_before bs n pairs (d + 1)
  unfolding with_day totals_before
  before_next d energy totals next e t w =
      w
      ∙ rw (t, before_length d, e)
      (same_up_to _ _ (pair_count pairs) (λ k l. rw (before_at d k l) (stay_next bs n (first_of pairs k) (end_of pairs k) d)))

  -- there is room for one day more
  pub before_room : Bytes bs → n ≤ 288 → (d : ℕ) → d ≤ 400 → (totals : List ℕ) → totals ≡ totals_before bs n pairs d → (energy : ℕ)
      → energy ≤ 2 ^ 32 * n → Room pairs totals energy
  before_room b few d l totals e energy m =
      rw e
      (record {
        each = before_length d;
        fits = λ k j.
            let within : k < pair_count pairs = rw (before_length d) at j in
            let clipped : least (end_of pairs k) d ≤ 400 = omega (arith, least_le (end_of pairs k) d) in
            rw (before_at d k within) (omega (arith, stay_small bs n (first_of pairs k) b few (least (end_of pairs k) d) clipped));
      })

  -- after the last day the totals are whole
  pub before_all : (days : ℕ) → n ≡ 1440 / (figures bs).interval → pairs_ok days pairs ≡ true
      → totals_before bs n pairs days ≡ totals_of bs pairs
  unfolding totals_before totals_of
  before_all days e ok =
      rw e
      (same_up_to _ _ (pair_count pairs) (λ k l.
      let fits = (and_parts (ltb (first_of pairs k) (end_of pairs k)) (leb (end_of pairs k) days)
      (all_at (λ j. pair_ok days (first_of pairs j) (end_of pairs j)) (pair_count pairs) ok k l)).1 in
      ap (stay_total bs (1440 / (figures bs).interval) (first_of pairs k)) (least_first (end_of pairs k) days (leb-true _ _ fits))))
