-- What a pass knows of the run that a slot lies in.
use mathlib.Core.Bool.{Bool, true, false, and-false}
use mathlib.Core.List.{List}
use mathlib.Core.Logic.{⊎_elim}
use mathlib.Core.Path.{◌≡◌, refl, sym, ap, ◌∙◌}
use Prim.Native.Nat.{ℕ, zero, suc, ◌+◌, ◌-◌, ◌≤◌, ◌<◌, zero-le}
use native.Mathlib.Nat.{add-zero, add-suc, mul-le-mul, le_refl, le_trans}
use native.Mathlib.Numerals.{add-one}
use native.Mathlib.Omega.{arith}
use borrow.Author.Tests.{ltb-true, le-leb, lt-leb}
use lib.ListN.{get_or}
use Rattle.base.specs.Lists.{every}
use Rattle.base.proofs.Logic.{either, passed}
use Rattle.rules.specs.declared.Head.{Head}
use Rattle.rules.specs.declared.walk.Walk.{Walk}
use Rattle.rules.specs.declared.linear.StraightLine.{StraightLine}
use Rattle.rules.specs.Opening.{Slots, slot_count}
use Rattle.rules.specs.Tests.{good_at}
use Rattle.rules.specs.Filling.{in_run, run_before, run_from, run_length, is_linear, line_value, linear_value}
use Rattle.rules.specs.Inner.Walks.{zero_at, zero_before, bare_line, full_line, line_through, line_at, line_before, end_tests}
use Rattle.rules.specs.Inner.Walks.{length_within}
use Rattle.rules.specs.Inner.Walks.{Drawn, walk_at}
use Rattle.rules.proofs.Bounds.{Bounded, cap_high}
use Rattle.rules.proofs.Runs.{before_low, before_none, before_on, from_on, place_within, start_kept, length_kept, linear_kept}
use Rattle.rules.proofs.Runs.{start_first, length_first, linear_first, linear_tells}
use Rattle.rules.proofs.ValueBounds.{good_small}
use Rattle.rules.proofs.Outages.{zero_on}

-- the same line at the next slot
abbrev one_on : StraightLine → StraightLine
one_on p = record { place = p.place + 1; length = p.length; left = p.left; right = p.right }

module _ (h : Head) (s : Slots) (v : List ℕ) where
  -- a slot in no run
  pub line_none : (i : ℕ) → in_run h s v i ≡ false → bare_line 0 ≡ line_at h s v i
  unfolding line_at
  line_none i e = rw e

  line_some : (i : ℕ) → in_run h s v i ≡ true → line_at h s v i ≡ line_through h s v i
  unfolding line_at
  line_some i e = rw e

  through_full : (i : ℕ) → is_linear h s v i ≡ true → line_through h s v i ≡ full_line h s v i
  unfolding line_through
  through_full i t = rw t

  through_bare : (i : ℕ) → is_linear h s v i ≡ false → line_through h s v i ≡ bare_line (suc (run_before h s v i))
  unfolding line_through
  through_bare i t = rw t

  through_place : (i : ℕ) → (line_through h s v i).place ≡ suc (run_before h s v i)
  through_place i =
      ⊎_elim (λ t. ap (λ (p : StraightLine). p.place) (through_full i t)) (λ t. ap (λ (p : StraightLine). p.place) (through_bare i t))
      (either (is_linear h s v i))

  module _ (i : ℕ) (l : i < slot_count h) (e : in_run h s v i ≡ true) where
    full_on : one_on (full_line h s v i) ≡ full_line h s v (suc i)
    full_on = rw (start_kept h s v i l e, length_kept h s v i l e, before_on h s v i l e, add-one)

    bare_on : one_on (bare_line (suc (run_before h s v i))) ≡ bare_line (suc (run_before h s v (suc i)))
    bare_on = rw (before_on h s v i l e, add-one)

    through_on : one_on (line_through h s v i) ≡ line_through h s v (suc i)
    through_on =
        ⊎_elim
        (λ t. ap one_on (through_full i t) ∙ full_on ∙ sym (through_full (suc i) (linear_kept h s v i l e ∙ t)))
        (λ t. ap one_on (through_bare i t) ∙ bare_on ∙ sym (through_bare (suc i) (linear_kept h s v i l e ∙ t)))
        (either (is_linear h s v i))

  -- a line of place 0 stands before the first slot of a run
  pub line_fresh : (i : ℕ) (p : StraightLine) → p ≡ line_before h s v i → p.place ≡ 0 → run_before h s v i ≡ 0
  unfolding line_before run_before
  line_fresh zero p e z = refl
  line_fresh (suc i) p e z =
      ⊎_elim
      (λ t. absurd (let y : suc (run_before h s v i) ≡ 0 = sym (through_place i) ∙ ap (λ (q : StraightLine). q.place)
      (sym (line_some i t) ∙ sym e)
      ∙ z in omega arith))
      (λ t. before_none h s v i t)
      (either (in_run h s v i))

  pub line_place : (i : ℕ) (p : StraightLine) → p ≡ line_before h s v i → p.place ≤ i
  unfolding line_before
  line_place zero p e = rw e zero-le
  line_place (suc i) p e =
      ⊎_elim
      (λ t. rw (e ∙ line_some i t) (omega (arith, through_place i, before_low h s v i)))
      (λ t. rw (e ∙ sym (line_none i t)) zero-le)
      (either (in_run h s v i))

  -- inside a run the line of the slot before stands
  pub line_kept : (i : ℕ) (p : StraightLine) → i < slot_count h → in_run h s v i ≡ true → p ≡ line_before h s v i → (p.place ≡ 0 → ⊥)
      → one_on p ≡ line_at h s v i
  unfolding line_before
  line_kept zero p l t e z = absurd (z (ap (λ (q : StraightLine). q.place) e))
  line_kept (suc i) p l t e z =
      ⊎_elim
      (λ u. ap one_on (e ∙ line_some i u) ∙ through_on i (omega arith) u ∙ sym (line_some (suc i) t))
      (λ u. absurd (z (ap (λ (q : StraightLine). q.place) (e ∙ sym (line_none i u)))))
      (either (in_run h s v i))

  -- at the first slot of a run
  module _ (i : ℕ) (l : i < slot_count h) (e : in_run h s v i ≡ true) (first : run_before h s v i ≡ 0) where
    bare_first : is_linear h s v i ≡ false → bare_line 1 ≡ line_at h s v i
    unfolding line_at line_through
    bare_first t = rw (e, t, first)

    pub line_first_slot : i < 1 → bare_line 1 ≡ line_at h s v i
    line_first_slot z = bare_first (linear_first h s v i l e first ∙ simp (lt-leb 1 i z, and-false))

    module _ (p : 1 ≤ i) where
      pub line_no_left : good_at h s (i - 1) ≡ false → bare_line 1 ≡ line_at h s v i
      line_no_left t = bare_first (linear_first h s v i l e first ∙ simp (t, and-false))

      module _ (t : good_at h s (i - 1) ≡ true) (g : ℕ) (q : g ≡ length_within h s v i) where
        abbrev ending : Bool
        ending = every (end_tests h s i (run_from h s v i (slot_count h - i)))

        linear_is : is_linear h s v i ≡ ending
        linear_is = linear_first h s v i l e first ∙ (rw (le-leb 1 i p, t))

        pub line_no_right : g ≡ 0 → bare_line 1 ≡ line_at h s v i
        unfolding length_within
        line_no_right z =
            ⊎_elim
            (λ u. absurd (let y : run_from h s v i (slot_count h - i) ≡ 0 = sym (rw u at q) ∙ z in omega (arith, from_on h s v i l e)))
            (λ u. bare_first (linear_is ∙ u))
            (either ending)

        module _ (z : g ≡ 0 → ⊥) where
          ended : (ending ≡ true) × (g ≡ run_from h s v i (slot_count h - i))
          unfolding length_within
          ended = ⊎_elim (λ u. (u, rw u at q)) (λ u. absurd (z (rw u at q))) (either ending)

          pub line_ends : i + g < slot_count h
          line_ends = rw ended.1 (ltb-true _ _ (passed (end_tests h s i (run_from h s v i (slot_count h - i))) ended.0 1))

          pub line_found : record { place = 1; length = g; left = get_or s.values (i - 1) 0; right = get_or s.values (i + g) 0 }
              ≡ line_at h s v i
          unfolding line_at line_through
          line_found =
              rw (ended.1, e, linear_is ∙ ended.0, start_first h s v i l e first, length_first h s v i l e first, first)

  -- a slot of a run, with the line that a pass knows
  module _ (b : Bounded h) (i : ℕ) (l : i < slot_count h) (e : in_run h s v i ≡ true) (p : StraightLine) (q : p ≡ line_at h s v i) where
    line_full : is_linear h s v i ≡ true → p ≡ full_line h s v i
    line_full t = q ∙ line_some i e ∙ through_full i t

    line_bare : is_linear h s v i ≡ false → p ≡ bare_line (suc (run_before h s v i))
    line_bare t = q ∙ line_some i e ∙ through_bare i t

    drawn : is_linear h s v i ≡ true → Drawn (full_line h s v i)
    drawn t =
        let w = linear_tells h s v i t in
        record {
          place = place_within h s v i l e;
          length = omega (arith, w.short, mul-le-mul (le_refl (run_length h s v i)) b.interval_low);
          left = le_trans (good_small h b s _ w.left_good) (cap_high h b);
          right = le_trans (good_small h b s _ w.right_good) (cap_high h b);
        }

    pub line_fills_lem : 0 < p.length
        → (is_linear h s v i ≡ true) × Drawn p × (line_value p.left p.right p.place p.length ≡ linear_value h s v i)
    unfolding linear_value
    line_fills_lem z =
        ⊎_elim
        (λ t. rw (line_full t) (t, drawn t, refl))
        (λ t. absurd (let y : p.length ≡ 0 = ap (λ (r : StraightLine). r.length) (line_bare t) in omega arith))
        (either (is_linear h s v i))

    pub line_leaves : p.length ≤ 0 → is_linear h s v i ≡ false
    line_leaves z =
        ⊎_elim
        (λ t. absurd (let y : p.length ≡ run_length h s v i = ap (λ (r : StraightLine). r.length) (line_full t) in
        omega (arith, place_within h s v i l e)))
        (λ t. t)
        (either (is_linear h s v i))

  -- one slot on, k slots behind slot i
  pub line_on : (i k : ℕ) → line_at h s v (i + k) ≡ line_before h s v (i + (k + 1))
  unfolding line_before
  line_on i k = rw (add-one, add-suc)

-- a pass at slot i
module _ (h : Head) (s : Slots) (v : List ℕ) (p : Walk) (i : ℕ) (e : p ≡ walk_at h s v i) where
  pub walk_outage : (n : ℕ) → n ≡ slot_count h → p.outage ≡ zero_before s.versions s.statuses n i
  unfolding walk_at
  walk_outage n l = rw l (ap (λ (q : Walk). q.outage) e)

  pub walk_line : p.line ≡ line_before h s v i
  unfolding walk_at
  walk_line = ap (λ (q : Walk). q.line) e

pub walk_next : (h : Head) (s : Slots) (v : List ℕ) (i : ℕ) (n : ℕ) → n ≡ slot_count h → (r : Bool)
    → r ≡ zero_at s.versions s.statuses n i
    → (p : StraightLine) → p ≡ line_at h s v i → record { at = i + 1; outage = r; line = p } ≡ walk_at h s v (i + 1)
unfolding walk_at
walk_next h s v i n l r q p w =
    let z : zero_at s.versions s.statuses n (i + 0) ≡ zero_before s.versions s.statuses n (i + 1) =
    zero_on s.versions s.statuses n i 0 in
    let y : line_at h s v (i + 0) ≡ line_before h s v (i + 1) = line_on h s v i 0 in
    rw (q, w, ← l, ← z, ← y, add-zero)
