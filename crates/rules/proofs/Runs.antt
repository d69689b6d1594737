-- Runs of slots that a line may fill, slot by slot.
use mathlib.Core.Bool.{Bool, true, false, not, ◌&&◌, and-false}
use mathlib.Core.List.{List}
use mathlib.Core.Logic.{⊎_elim}
use mathlib.Core.Path.{◌≡◌, refl, sym, ◌∙◌}
use Prim.Native.Nat.{ℕ, zero, suc, ◌+◌, ◌-◌, ◌*◌, ◌/◌, ◌≤◌, ◌<◌, zero-le}
use native.Mathlib.Nat.{div-lt_iff_lt-mul, le-div_iff_mul-le, mul-le-mul, le_refl}
use native.Mathlib.Omega.{arith}
use borrow.Author.Tests.{leb-true, le-leb, lt-leb, le-ltb, lt-ltb, not-true}
use lib.ListN.{get_or}
use Rattle.base.specs.Lists.{every}
use Rattle.base.proofs.Logic.{and_parts, either, passed}
use Rattle.rules.specs.declared.Head.{Head}
use Rattle.rules.specs.Opening.{Slots, slot_count}
use Rattle.rules.specs.Tests.{good_at}
use Rattle.rules.specs.Filling.{is_outage_zero, is_agreed, in_run, run_before, run_from, run_start, run_length, line_tests, is_linear}
use Rattle.rules.specs.Inner.Walks.{length_within}

-- what `is_linear` tells
pub record Linear (h : Head) (s : Slots) (start g : ℕ) : Type 0 where
  pub short : g * h.interval ≤ 120
  pub left_good : good_at h s (start - 1) ≡ true
  pub right_good : good_at h s (start + g) ≡ true

pub not_agreed : (v : List ℕ) (i : ℕ) → get_or v i 0 ≤ 0 → is_agreed v i ≡ false
unfolding is_agreed
not_agreed v i l = le-ltb _ _ l

module _ (h : Head) (s : Slots) (v : List ℕ) where
  -- slot i has a cause and is neither agreed nor zeroed
  module _ (i : ℕ) where
    pub run_holds : good_at h s i ≡ false → is_agreed v i ≡ false → (o : Bool) → o ≡ is_outage_zero h s i → o ≡ false → in_run h s v i ≡
        true
    unfolding in_run
    run_holds p q o r z = rw (p, q, sym r ∙ z)

    pub run_unzeroed : in_run h s v i ≡ true → is_outage_zero h s i ≡ false
    unfolding in_run
    run_unzeroed e = not-true _ (and_parts (not (good_at h s i) && not (is_agreed v i)) (not (is_outage_zero h s i)) e).1

    pub run_good : good_at h s i ≡ true → in_run h s v i ≡ false
    unfolding in_run
    run_good p = rw p

    pub run_agreed : 0 < get_or v i 0 → in_run h s v i ≡ false
    unfolding in_run is_agreed
    run_agreed p = simp (lt-ltb _ _ p, and-false)

    pub run_zeroed : (o : Bool) → o ≡ is_outage_zero h s i → o ≡ true → in_run h s v i ≡ false
    unfolding in_run
    run_zeroed o r z = simp (sym r ∙ z, and-false)

  pub before_low : (i : ℕ) → run_before h s v i ≤ i
  unfolding run_before
  before_low zero = zero-le
  before_low (suc i) = ⊎_elim (λ e. rw e (omega (arith, before_low i))) (λ e. rw e zero-le) (either (in_run h s v i))

  pub before_none : (i : ℕ) → in_run h s v i ≡ false → run_before h s v (suc i) ≡ 0
  unfolding run_before
  before_none i e = rw e

  from_none : (i k : ℕ) → in_run h s v i ≡ false → run_from h s v i k ≡ 0
  unfolding run_from
  from_none i zero e = refl
  from_none i (suc k) e = rw e

  pub from_on : (i : ℕ) → i < slot_count h → in_run h s v i ≡ true
      → run_from h s v i (slot_count h - i) ≡ suc (run_from h s v (suc i) (slot_count h - suc i))
  unfolding run_from
  from_on i l e =
      let d : slot_count h - i ≡ suc (slot_count h - suc i) = omega arith in
      rw (d, e)

  -- j is no more than g + 1
  pub place_low : (i : ℕ) → suc (run_before h s v i) ≤ run_length h s v i + 1
  unfolding run_length
  place_low i = omega arith

  pub linear_tells : (i : ℕ) → is_linear h s v i ≡ true → Linear h s (run_start h s v i) (run_length h s v i)
  unfolding is_linear
  linear_tells i e =
      let t = line_tests h s (run_start h s v i) (run_length h s v i) in
      record {
        short = leb-true _ _ (passed t e 0);
        left_good = passed t e 2;
        right_good = passed t e 4;
      }

  -- slot i lies in a run
  module _ (i : ℕ) (l : i < slot_count h) (e : in_run h s v i ≡ true) where
    pub before_on : run_before h s v (suc i) ≡ suc (run_before h s v i)
    unfolding run_before
    before_on = rw e

    pub place_within : suc (run_before h s v i) ≤ run_length h s v i
    unfolding run_length
    place_within = omega (arith, from_on i l e)

    -- one slot on the run has the same start and length
    pub start_kept : run_start h s v (suc i) ≡ run_start h s v i
    unfolding run_start
    start_kept = omega (arith, before_on)

    pub length_kept : run_length h s v (suc i) ≡ run_length h s v i
    unfolding run_length
    length_kept = omega (arith, before_on, from_on i l e)

    pub linear_kept : is_linear h s v (suc i) ≡ is_linear h s v i
    unfolding is_linear
    linear_kept = rw (start_kept, length_kept)

    -- the first slot of a run
    module _ (first : run_before h s v i ≡ 0) where
      pub start_first : run_start h s v i ≡ i
      unfolding run_start
      start_first = omega arith

      pub length_first : run_length h s v i ≡ run_from h s v i (slot_count h - i)
      unfolding run_length
      length_first = omega arith

      abbrev pub tests : Bool
      tests = every (line_tests h s i (run_from h s v i (slot_count h - i)))

      pub linear_first : is_linear h s v i ≡ tests
      unfolding is_linear
      linear_first = rw (start_first, length_first)

  -- the run that begins at slot i, k slots on
  module _ (i k : ℕ) (e : run_from h s v i (slot_count h - i) ≡ k + run_from h s v (i + k) (slot_count h - (i + k))) where
    pub run_on : i + k < slot_count h → in_run h s v (i + k) ≡ true
        → run_from h s v i (slot_count h - i) ≡ (k + 1) + run_from h s v (i + (k + 1)) (slot_count h - (i + (k + 1)))
    run_on l t =
        let a : i + (k + 1) ≡ suc (i + k) = omega arith in
        rw a (omega (arith, from_on (i + k) l t))

    -- it ends there
    ends : in_run h s v (i + k) ≡ false → run_from h s v i (slot_count h - i) ≡ k
    ends t = omega (arith, from_none (i + k) (slot_count h - (i + k)) t)

    pub within_last : slot_count h ≤ i + k → length_within h s v i ≡ 0
    unfolding length_within run_from
    within_last l =
        let z : slot_count h - (i + k) ≡ 0 = omega arith in
        let g : run_from h s v i (slot_count h - i) ≡ k = e ∙ (rw z (omega arith)) in
        simp (g, le-ltb (i + k) (slot_count h) l, and-false)

    pub within_good : k ≤ 120 / h.interval → 0 < h.interval → i + k < slot_count h → good_at h s (i + k) ≡ true → length_within h s v i ≡ k
    unfolding length_within
    within_good m p l t =
        let n : k * h.interval ≤ 120 = (le-div_iff_mul-le p).0 m in
        rw (ends (run_good (i + k) t), le-leb _ _ n, lt-ltb _ _ l, t)

    pub within_broken : good_at h s (i + k) ≡ false → in_run h s v (i + k) ≡ false → length_within h s v i ≡ 0
    unfolding length_within
    within_broken t r = simp (ends r, t, and-false)

    pub within_long : 120 / h.interval < k → 0 < h.interval → length_within h s v i ≡ 0
    unfolding length_within
    within_long m p =
        let n : 120 < k * h.interval = (div-lt_iff_lt-mul p).0 m in
        let g : k ≤ run_from h s v i (slot_count h - i) = omega arith in
        let f : 120 < run_from h s v i (slot_count h - i) * h.interval = omega (arith, mul-le-mul g (le_refl h.interval)) in
        rw (lt-leb _ 120 f)
