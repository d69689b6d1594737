-- Two books with the same cells at a slot make the same of it, and of a walk that a good slot ends.
use mathlib.Core.Bool.{Bool, true, false, cond, ◌&&◌, false≢true}
use mathlib.Core.List.{List}
use mathlib.Core.Logic.{⊎_elim}
use mathlib.Core.Path.{◌≡◌, refl, sym, ◌∙◌}
use Prim.Native.Nat.{ℕ, ◌≤◌, ◌<◌}
use native.Mathlib.Nat.{eq-or-lt_of_le}
use lib.ListN.{get_or}
use Rattle.rules.specs.declared.Head.{Head}
use Rattle.rules.specs.Opening.{Slots}
use Rattle.rules.specs.Tests.{is_gap, cause_at, good_at}
use Rattle.rules.specs.Filling.{outage_at, is_reference}
use Rattle.rules.proofs.Outages.{good_delivered}

-- the three cells of slot k
pub record SameAt (s t : Slots) (k : ℕ) : Type 0 where
  pub value : get_or s.values k 0 ≡ get_or t.values k 0
  pub version : get_or s.versions k 0 ≡ get_or t.versions k 0
  pub status : get_or s.statuses k 0 ≡ get_or t.statuses k 0

-- two choices by one test, whose first parts need to be equal only where it passes
pub cond_same : {X : Type 0} (x y : Bool) {a b c d : X} → x ≡ y → (x ≡ true → a ≡ b) → c ≡ d → cond x a c ≡ cond y b d
cond_same true true e p q = p refl
cond_same true false e p q = absurd (false≢true (sym e))
cond_same false true e p q = absurd (false≢true e)
cond_same false false e p q = q

-- the same where each part needs to be equal only where it is taken
pub cond_parts : {X : Type 0} (x : Bool) {a b c d : X} → (x ≡ true → a ≡ b) → (x ≡ false → c ≡ d) → cond x a c ≡ cond x b d
cond_parts true p q = p refl
cond_parts false p q = q refl

pub and_same : (x y : Bool) {a b : Bool} → x ≡ y → (x ≡ true → a ≡ b) → (x && a) ≡ (y && b)
and_same true true e p = p refl
and_same true false e p = absurd (false≢true (sym e))
and_same false true e p = absurd (false≢true e)
and_same false false e p = refl

module _ (h : Head) (s t : Slots) (k : ℕ) (e : SameAt s t k) where
  pub gap_same : is_gap s.versions k ≡ is_gap t.versions k
  unfolding is_gap
  gap_same = rw e.version

  pub outage_same : outage_at s.versions s.statuses k ≡ outage_at t.versions t.statuses k
  unfolding outage_at
  outage_same = rw (gap_same, e.status)

  pub good_same : good_at h s k ≡ good_at h t k
  unfolding good_at cause_at
  good_same = rw (e.value, e.version, e.status)

  pub reference_same : (holidays : List ℕ) → is_reference h s holidays k ≡ is_reference h t holidays k
  unfolding is_reference
  reference_same holidays = rw (good_same, e.status)

-- a slot at which a test passes that good slots do not pass is not the good slot m
module _ (h : Head) (s : Slots) (m k : ℕ) (g : good_at h s m ≡ true) where
  pub gap_not_good : is_gap s.versions k ≡ true → m ≡ k → ⊥
  gap_not_good e z = false≢true (sym (good_delivered h s m g) ∙ rw z e)

  pub past_gap : is_gap s.versions k ≡ true → m ≤ k → m < k
  past_gap e l = ⊎_elim (λ z. absurd (gap_not_good e z)) (λ n. n) (eq-or-lt_of_le l)

  pub short_of_gap : is_gap s.versions k ≡ true → k ≤ m → k < m
  short_of_gap e l = ⊎_elim (λ z. absurd (gap_not_good e (sym z))) (λ n. n) (eq-or-lt_of_le l)
