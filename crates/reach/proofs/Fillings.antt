-- Two books that differ at slot i alone fill every slot alike that is not of clauses 1 to 3, and give it the same shape.
use mathlib.Core.Bool.{true, false≢true}
use mathlib.Core.List.{List}
use mathlib.Core.Logic.{◌⊎◌, inl, inr, ⊎_elim}
use mathlib.Core.Path.{◌≡◌, refl, sym, ◌∙◌}
use Prim.Native.Nat.{ℕ, suc, ◌+◌, ◌-◌, ◌≤◌, ◌<◌}
use native.Mathlib.Nat.{eq-or-lt_of_le}
use native.Mathlib.Omega.{arith}
use borrow.Author.Tests.{ltb-true, ltb-false}
use lib.Dec.{ltb}
use Rattle.base.specs.Lists.{any}
use Rattle.base.proofs.Logic.{either}
use Rattle.base.proofs.Sums.{any_place, any_some}
use Rattle.rules.specs.declared.Head.{Head}
use Rattle.rules.specs.Opening.{Slots, Agreed, slots_per_day, slot_count}
use Rattle.rules.specs.Tests.{good_at}
use Rattle.rules.specs.Filling.{is_outage_zero, is_linear, linear_value, filled_at, shape_at}
use Rattle.rules.proofs.Shapes.{shape_good}
use Rattle.reach.specs.Reach.{HasCause, InRunAt, DaysLater}
use Rattle.reach.proofs.Alike.{SameAt, good_same}
use Rattle.reach.proofs.Behind.{zero_behind, linear_behind, value_behind}
use Rattle.reach.proofs.Before.{zero_before_lem, linear_before, value_before}
use Rattle.reach.proofs.Weeks.{references_same}

-- a good slot among the k from a, or a cause at each
good_or_causes : (h : Head) (s : Slots) (a k : ℕ)
    → ((m : ℕ) × (a ≤ m) × (m < a + k) × (good_at h s m ≡ true)) ⊎ ((m : ℕ) → a ≤ m → m < a + k → HasCause h s m)
good_or_causes h s a k =
    ⊎_elim (λ e. inl (any_place (good_at h s) a k e))
    (λ e. inr (λ m l n. ⊎_elim (λ g. absurd (false≢true (sym e ∙ any_some (good_at h s) a k m l n g))) (λ c. c) (either (good_at h s m))))
    (either (any (good_at h s) a k))

-- what the rules before the references make of slot j
record Alike (h : Head) (s t : Slots) (v : List ℕ) (j : ℕ) : Type 0 where
  pub zeroed : is_outage_zero h s j ≡ is_outage_zero h t j
  pub linear : is_linear h s v j ≡ is_linear h t v j
  pub value : linear_value h s v j ≡ linear_value h t v j

module _ (h : Head) (s t : Slots) (i : ℕ) (in_book : i < slot_count h) (same : (k : ℕ) → (k ≡ i → ⊥) → SameAt s t k) where
  module _ (j : ℕ) (lt : j < slot_count h) (apart : j ≡ i → ⊥) (clear : InRunAt h s i j → ⊥) (cause : HasCause h s j) where
    -- a slot with a cause is not the good slot m
    not_good : (m : ℕ) → good_at h s m ≡ true → m ≡ j → ⊥
    not_good m g z = false≢true (sym cause ∙ rw z at g)

    behind : (v : List ℕ) → i < j → Alike h s t v j
    behind v l =
        ⊎_elim
        (λ (m, low, high, g).
        let from : (k : ℕ) → m ≤ k → SameAt s t k = λ k p. same k (λ z. absurd (omega arith)) in
        let n : m < j = ⊎_elim (λ z. absurd (not_good m g z)) (λ x. x) (eq-or-lt_of_le {n = m} {m = j} (omega arith)) in
        record {
          zeroed = zero_behind h s t v m from g j (omega arith);
          linear = linear_behind h s t v m from g j n;
          value = value_behind h s t v m from g j n;
        })
        (λ causes.
        absurd (clear (record {
          first = suc i;
          last = j;
          run = record { ordered = l; inside = lt; causes = λ k p q. causes k p (omega arith) };
          near = inr (inr refl);
          from = l;
          to = omega arith;
        })))
        (good_or_causes h s (suc i) (j - i))

    before : (v : List ℕ) → j < i → Alike h s t v j
    before v l =
        ⊎_elim
        (λ (m, low, high, g).
        let to : (k : ℕ) → k ≤ m → SameAt s t k = λ k p. same k (λ z. absurd (omega arith)) in
        record {
          zeroed = zero_before_lem h s t v m to g j low;
          linear = linear_before h s t v m to g j low;
          value = value_before h s t v m to g j low;
        })
        (λ causes.
        absurd (clear (record {
          first = j;
          last = i - 1;
          run = record { ordered = omega arith; inside = omega arith; causes = λ k p q. causes k p (omega arith) };
          near = inr (inl (omega arith));
          from = omega arith;
          to = omega arith;
        })))
        (good_or_causes h s j (i - j))

    alike : (v : List ℕ) → Alike h s t v j
    alike v =
        ⊎_elim (λ e. behind v (ltb-true i j e))
        (λ e. before v (⊎_elim (λ z. absurd (apart z)) (λ x. x) (eq-or-lt_of_le (ltb-false i j e))))
        (either (ltb i j))

  module _ (a : Agreed) (holidays : List ℕ) (pos : 0 < slots_per_day h) where
    -- what the rules make of slot j
    abbrev Fills : ℕ → Type 0
    Fills j =
        (filled_at h s a holidays j ≡ filled_at h t a holidays j) × (shape_at h s a holidays j ≡ shape_at h t a holidays j)

    fills_good : (j : ℕ) → (j ≡ i → ⊥) → good_at h s j ≡ true → Fills j
    unfolding filled_at
    fills_good j apart g =
        let e = same j apart in
        let g' : good_at h t j ≡ true = sym (good_same h s t j e) ∙ g in
        (rw (g, g', e.value), sym (shape_good h s a holidays j g) ∙ shape_good h t a holidays j g')

    pub fills_same : (j : ℕ) → j < slot_count h → (j ≡ i → ⊥) → (InRunAt h s i j → ⊥) → (DaysLater h s holidays i j → ⊥) → Fills j
    unfolding filled_at shape_at
    fills_same j lt apart clear far =
        ⊎_elim (fills_good j apart)
        (λ cause.
        let x = alike j lt apart clear cause a.versions in
        let refs = references_same h s t holidays i same pos j
        (λ days (p, w). far (record { days = days; place = p; cause = cause; within = w })) in
        let c' : HasCause h t j = sym (good_same h s t j (same j apart)) ∙ cause in
        (rw (cause, c', x.zeroed, x.linear, x.value, refs), rw (cause, c', x.zeroed, x.linear, x.value, refs)))
        (either (good_at h s j))
