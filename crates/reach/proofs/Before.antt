-- Two books with the same cells up to a good slot fill every slot before it alike, its references aside.
use mathlib.Core.Bool.{Bool, true, ◌||◌, false≢true}
use mathlib.Core.List.{List}
use mathlib.Core.Logic.{⊎_elim}
use mathlib.Core.Path.{◌≡◌, refl, sym, ap, ap₂, ◌∙◌}
use Prim.Native.Nat.{ℕ, zero, suc, ◌+◌, ◌-◌, ◌≤◌, ◌<◌}
use native.Mathlib.Nat.{eq-or-lt_of_le}
use native.Mathlib.Omega.{arith}
use Rattle.base.proofs.Logic.{either}
use Rattle.rules.specs.declared.Head.{Head}
use Rattle.rules.specs.Opening.{Slots, slot_count}
use Rattle.rules.specs.Tests.{good_at}
use Rattle.rules.specs.Filling.{outage_before, outage_after, is_outage_zero, in_run, run_before, run_from, run_start, run_length, is_linear}
use Rattle.rules.specs.Filling.{linear_value}
use Rattle.rules.proofs.Runs.{run_good, before_low}
use Rattle.reach.proofs.Alike.{SameAt, cond_same, and_same, gap_same, outage_same, good_same, short_of_gap}

module _ (h : Head) (s t : Slots) (v : List ℕ) (m : ℕ) (same : (k : ℕ) → k ≤ m → SameAt s t k) (g : good_at h s m ≡ true) where
  outage_before_lem : (j : ℕ) → j ≤ m → outage_before s.versions s.statuses j ≡ outage_before t.versions t.statuses j
  unfolding outage_before
  outage_before_lem zero l = refl
  outage_before_lem (suc k) l =
      let low : k ≤ m = omega arith in
      cond_same _ _ (gap_same h s t k (same k low)) (λ e. outage_before_lem k low) (outage_same h s t k (same k low))

  outage_after_lem : (n j : ℕ) → j ≤ m → outage_after s.versions s.statuses j n ≡ outage_after t.versions t.statuses j n
  unfolding outage_after
  outage_after_lem zero j l = refl
  outage_after_lem (suc n) j l =
      cond_same _ _ (gap_same h s t j (same j l)) (λ e. outage_after_lem n (suc j) (short_of_gap h s m j g e l))
      (outage_same h s t j (same j l))

  pub zero_before_lem : (j : ℕ) → j ≤ m → is_outage_zero h s j ≡ is_outage_zero h t j
  unfolding is_outage_zero
  zero_before_lem j l =
      and_same _ _ (gap_same h s t j (same j l))
      (λ e. ap₂ (λ (x y : Bool). x || y) (outage_before_lem j l) (outage_after_lem (slot_count h - j) j l))

  run_same : (j : ℕ) → j ≤ m → in_run h s v j ≡ in_run h t v j
  unfolding in_run
  run_same j l = rw (good_same h s t j (same j l), zero_before_lem j l)

  -- a slot of a run before m is not m
  short_of_run : (k : ℕ) → in_run h s v k ≡ true → k ≤ m → k < m
  short_of_run k e l =
      ⊎_elim (λ z. absurd (false≢true (sym (run_good h s v m g) ∙ rw (← z) e))) (λ n. n) (eq-or-lt_of_le l)

  run_before_lem : (j : ℕ) → j ≤ m → run_before h s v j ≡ run_before h t v j
  unfolding run_before
  run_before_lem zero l = refl
  run_before_lem (suc k) l =
      let low : k ≤ m = omega arith in
      cond_same _ _ (run_same k low) (λ e. ap suc (run_before_lem k low)) refl

  run_from_lem : (n j : ℕ) → j ≤ m → run_from h s v j n ≡ run_from h t v j n
  unfolding run_from
  run_from_lem zero j l = refl
  run_from_lem (suc n) j l = cond_same _ _ (run_same j l) (λ e. ap suc (run_from_lem n (suc j) (short_of_run j e l))) refl

  -- the run ends before m
  ends : (n j : ℕ) → j ≤ m → j + run_from h s v j n ≤ m
  unfolding run_from
  ends zero j l = omega arith
  ends (suc n) j l =
      ⊎_elim (λ e. rw e (let r = ends n (suc j) (short_of_run j e l) in omega arith)) (λ e. rw e (omega arith)) (either (in_run h s v j))

  module _ (j : ℕ) (l : j ≤ m) where
    start_same : run_start h s v j ≡ run_start h t v j
    unfolding run_start
    start_same = ap (λ (x : ℕ). j - x) (run_before_lem j l)

    length_same : run_length h s v j ≡ run_length h t v j
    unfolding run_length
    length_same = ap₂ (λ (x y : ℕ). x + y) (run_before_lem j l) (run_from_lem (slot_count h - j) j l)

    high : run_start h s v j + run_length h s v j ≤ m
    unfolding run_start run_length
    high = omega (arith, ends (slot_count h - j) j l, before_low h s v j)

    left : SameAt s t (run_start h s v j - 1)
    left = same (run_start h s v j - 1) (omega (arith, high))

    right : SameAt s t (run_start h s v j + run_length h s v j)
    right = same (run_start h s v j + run_length h s v j) high

    pub linear_before : is_linear h s v j ≡ is_linear h t v j
    unfolding is_linear
    linear_before =
        rw (good_same h s t _ left, good_same h s t _ right, start_same, length_same)

    pub value_before : linear_value h s v j ≡ linear_value h t v j
    unfolding linear_value
    value_before = rw (left.value, right.value, start_same, length_same, run_before_lem j l)
