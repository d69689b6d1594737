-- Gaps of earlier weeks, which a search passes over four at a time.
use mathlib.Core.Bool.{true, false, false≢true}
use mathlib.Core.List.{List}
use mathlib.Core.Logic.{⊎_elim}
use mathlib.Core.Path.{◌≡◌, sym, ap, ◌∙◌}
use Prim.Native.Nat.{ℕ, suc, ◌+◌, ◌-◌, ◌*◌, ◌≤◌}
use native.Mathlib.Nat.{add-mul}
use native.Mathlib.Omega.{arith}
use Rattle.base.proofs.Logic.{and_parts, either}
use Rattle.rules.specs.declared.Head.{Head}
use Rattle.rules.specs.Opening.{Slots}
use Rattle.rules.specs.Tests.{is_gap, good_at}
use Rattle.rules.specs.Filling.{is_reference}
use Rattle.rules.specs.Inner.Ways.{four_gaps, GapsUpTo}
use Rattle.rules.proofs.Outages.{good_delivered}

-- a gap is no reference
pub gap_passed : (h : Head) (s : Slots) (holidays : List ℕ) (i : ℕ) → is_gap s.versions i ≡ true → is_reference h s holidays i ≡ false
unfolding is_reference
gap_passed h s holidays i e =
    ⊎_elim (λ g. absurd (false≢true (sym (good_delivered h s i g) ∙ e))) (λ g. rw g) (either (good_at h s i))

-- four weeks fewer
pub four_fewer : (left week at : ℕ) → 4 ≤ left → left * week ≤ at → (4 * week ≤ at) × ((left - 4) * week ≤ at - 4 * week)
four_fewer left week at p q =
    let parts : left ≡ left - 4 + 4 = omega arith in
    let split : left * week ≡ (left - 4) * week + 4 * week = ap (λ (x : ℕ). x * week) parts ∙ add-mul (left - 4) 4 week in
    (omega arith, omega arith)

-- from one place to the next
places : (at week : ℕ) → 4 * week ≤ at → (at - week + week ≡ at) × (at - 2 * week + week ≡ at - week)
    × (at - 3 * week + week ≡ at - 2 * week)
    × (at - 4 * week + week ≡ at - 3 * week)
places at week l = (omega arith, omega arith, omega arith, omega arith)

four_passed : (left weeks : ℕ) → 4 ≤ left → left ≤ weeks → suc (suc (suc (suc (weeks - left)))) ≡ weeks - (left - 4)
four_passed left weeks p q = omega arith

module _ (versions : List ℕ) (week from : ℕ) where
  one_more : (at next k : ℕ) → next + week ≡ at → is_gap versions next ≡ true → GapsUpTo versions week from at k
      → GapsUpTo versions week from next (suc k)
  unfolding GapsUpTo
  one_more at next k back e g = (e, rw back g)

  pub four_more : (at left weeks : ℕ) → 4 * week ≤ at → 4 ≤ left → left ≤ weeks → four_gaps versions at week ≡ true
      → GapsUpTo versions week from at (weeks - left) → GapsUpTo versions week from (at - 4 * week) (weeks - (left - 4))
  unfolding four_gaps
  four_more at left weeks l p q e g =
      let back = places at week l in
      let halves = and_parts _ _ e in
      let near = and_parts _ _ halves.0 in
      let far = and_parts _ _ halves.1 in
      let two = one_more _ _ _ back.1 near.1 (one_more _ _ _ back.0 near.0 g) in
      rw (four_passed left weeks p q) at (one_more _ _ _ back.3 far.1 (one_more _ _ _ back.2 far.0 two))
