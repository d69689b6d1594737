-- The pass before a slot, found from the last good slot before it.
use mathlib.Core.Bool.{Bool, true, false}
use mathlib.Core.List.{List}
use mathlib.Core.Path.{◌≡◌, refl, sym, ap, ◌∙◌}
use Prim.Native.Nat.{ℕ, zero, suc, ◌+◌, ◌-◌}
use native.Mathlib.Numerals.{add-one}
use native.Mathlib.Omega.{arith}
use Rattle.rules.specs.declared.Head.{Head}
use Rattle.rules.specs.declared.walk.Walk.{Walk}
use Rattle.rules.specs.declared.linear.StraightLine.{StraightLine}
use Rattle.rules.specs.Opening.{Slots, slot_count}
use Rattle.rules.specs.Tests.{good_at}
use Rattle.rules.specs.Inner.Walks.{zero_at, zero_before, bare_line, line_at, line_before, walk_at}
use Rattle.rules.proofs.Outages.{zero_none, good_delivered}
use Rattle.rules.proofs.Lines.{line_none}
use Rattle.rules.proofs.Runs.{run_good}

module _ (h : Head) (s : Slots) where
  -- behind a good slot, or at slot 0, a pass knows nothing
  module _ (v : List ℕ) (n : ℕ) where
    pub none_before : (from : ℕ) → ((from ≡ 0 → ⊥) → good_at h s (from - 1) ≡ true)
        → (false ≡ zero_before s.versions s.statuses n from) × (bare_line 0 ≡ line_before h s v from)
    unfolding zero_before line_before
    none_before zero good = (refl, refl)
    none_before (suc k) good =
        let z : suc k - 1 ≡ k = omega arith in
        let g : good_at h s k ≡ true = ap (good_at h s) (sym z) ∙ good (λ e. omega arith) in
        (sym (zero_none s.versions s.statuses n k (good_delivered h s k g)), line_none h s v k (run_good h s v k g))

    -- one slot on
    pub zero_next : (k : ℕ) → zero_at s.versions s.statuses n k ≡ zero_before s.versions s.statuses n (k + 1)
    unfolding zero_before
    zero_next k = rw add-one

    pub line_next : (k : ℕ) → line_at h s v k ≡ line_before h s v (k + 1)
    unfolding line_before
    line_next k = rw add-one

  pub walk_are : (v : List ℕ) (i : ℕ) (outage : Bool) (line : StraightLine) → outage ≡ zero_before s.versions s.statuses (slot_count h)
      i
      → line ≡ line_before h s v i
      → record { at = i; outage = outage; line = line } ≡ walk_at h s v i
  unfolding walk_at
  walk_are v i outage line p q = rw (p, q)

  pub walk_place : (v : List ℕ) (p : Walk) (i : ℕ) → p ≡ walk_at h s v i → p.at ≡ i
  unfolding walk_at
  walk_place v p i e = ap (λ (q : Walk). q.at) e

  -- at its own place
  pub walk_known : (v : List ℕ) (p : Walk) (i : ℕ) → p ≡ walk_at h s v i → p ≡ walk_at h s v p.at
  walk_known v p i e = e ∙ ap (walk_at h s v) (sym (walk_place v p i e))
