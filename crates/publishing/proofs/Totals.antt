-- The trailer's counts and sum, slot by slot.
use mathlib.Core.Bool.{Bool, true, false, cond}
use mathlib.Core.List.{List, [], ◌∷◌, ◌++◌}
use mathlib.Core.Path.{◌≡◌, refl, sym, ap, ◌∙◌}
use Prim.Native.Nat.{ℕ, ◌+◌, ◌*◌, ◌≤◌}
use native.Mathlib.Nat.{add-zero, zero-add}
use native.Mathlib.Numerals.{add-one}
use native.Mathlib.Omega.{arith}
use Rattle.base.specs.Lists.{up_to}
use Rattle.base.proofs.Lists.{up_to_snoc}
use Rattle.rules.specs.declared.Head.{Head}
use Rattle.rules.specs.declared.Outcome.{Outcome}
use Rattle.rules.specs.declared.Quality.{Quality}
use Rattle.rules.specs.declared.Quality.TheVariants.{A, S, F, N}
use lib.ListN.{length}
use Rattle.rules.specs.declared.pass.Pass.{Pass}
use Rattle.rules.specs.Opening.{Cells, first_day, slot_count}
use Rattle.rules.specs.Spans.{is_a, is_s, is_f, is_n, outcome_at, outcomes, spans}
use Rattle.rules.specs.Inner.Lent.{AgreedLow, WidthsLow}
use Rattle.rules.specs.Inner.Walks.{walk_at}
use Rattle.rules.specs.Inner.Stretches.{begins_at}
use Rattle.rules.specs.Inner.Passes.{pass_at, list_of, begun_before}
use Rattle.rules.proofs.Bounds.{Bounded, count_high}
use Rattle.rules.proofs.Outcomes.{outcome_fits}
use Rattle.rules.proofs.Summaries.{sum_small}
use Rattle.publishing.specs.declared.tables.Totals.{Totals}
use Rattle.file.specs.Layout.{one, total, figures_of}
use Rattle.publishing.specs.Publishing.{published}
use Rattle.publishing.specs.declared.tables.Progress.{Progress}
use Rattle.publishing.specs.Inner.Publishing.{totals_of, added_to, first_slots, progress_at, Countable}
use Rattle.file.proofs.Lists.{total_sum}

total_snoc : (g : Outcome → ℕ) (os : List Outcome) (o : Outcome) → total g (os ++ (o ∷ [])) ≡ total g os + g o
unfolding total
total_snoc g [] o = omega arith
total_snoc g (x ∷ os) o = omega (arith, total_snoc g os o)

module _ (h : Head) (b : Cells) (i : ℕ) where
  pub slots_next : first_slots h b (i + 1) ≡ first_slots h b i ++ (outcome_at h b i ∷ [])
  slots_next = rw (add-one i) (rw zero-add at (up_to_snoc (outcome_at h b) 0 i))

  pub totals_next : totals_of (first_slots h b (i + 1)) ≡ added_to (totals_of (first_slots h b i)) (outcome_at h b i)
  unfolding totals_of added_to
  totals_next = rw slots_next (λ t. record {
    actual = total_snoc (one is_a) (first_slots h b i) (outcome_at h b i) t;
    substituted = total_snoc (one is_s) (first_slots h b i) (outcome_at h b i) t;
    agreed = total_snoc (one is_f) (first_slots h b i) (outcome_at h b i) t;
    none = total_snoc (one is_n) (first_slots h b i) (outcome_at h b i) t;
    sum = total_snoc (λ o. o.value) (first_slots h b i) (outcome_at h b i) t;
  })

  one_low : (q : Quality → Bool) (o : Outcome) → one q o ≤ 1
  one_low q o = go (q o.quality)
    where
      go : (t : Bool) → cond t 1 0 ≤ 1
      go true = omega arith
      go false = omega arith

  pub count_low : (q : Quality → Bool) → total (one q) (first_slots h b i) ≤ i * 1
  count_low q =
      rw (total_sum (one q) (outcome_at h b) 0 i) (sum_small (λ j. one q (outcome_at h b j)) 1 (λ j. one_low q (outcome_at h b j)) 0 i)

  pub sum_low : Bounded h → AgreedLow b.agreed → WidthsLow b.widths → total (λ o. o.value) (first_slots h b i) ≤ i * 100_000_000
  sum_low w low narrow =
      rw (total_sum (λ o. o.value) (outcome_at h b) 0 i)
      (sum_small (λ j. (outcome_at h b j).value) 100_000_000 (λ j. omega (arith, outcome_fits h w b low j narrow)) 0 i)

-- `publish::add` goes by the slot's quality
module _ (t : Totals) (o : Outcome) where
  with : Quality → Outcome
  with q = record { value = o.value; quality = q; method = o.method }

  added : (q : Quality) → o.quality ≡ q → added_to t (with q) ≡ added_to t o
  unfolding with
  added q e = ap (λ (x : Quality). added_to t (with x)) (sym e)

  pub added_actual : o.quality ≡ A
      → record { actual = t.actual + 1; substituted = t.substituted; agreed = t.agreed; none = t.none; sum = t.sum + o.value }
      ≡ added_to t o
  unfolding added_to with
  added_actual e = simp add-zero refl ∙ added A e

  pub added_substituted : o.quality ≡ S
      → record { actual = t.actual; substituted = t.substituted + 1; agreed = t.agreed; none = t.none; sum = t.sum + o.value }
      ≡ added_to t o
  unfolding added_to with
  added_substituted e = simp add-zero refl ∙ added S e

  pub added_agreed : o.quality ≡ F
      → record { actual = t.actual; substituted = t.substituted; agreed = t.agreed + 1; none = t.none; sum = t.sum + o.value }
      ≡ added_to t o
  unfolding added_to with
  added_agreed e = simp add-zero refl ∙ added F e

  pub added_none : o.quality ≡ N
      → record { actual = t.actual; substituted = t.substituted; agreed = t.agreed; none = t.none + 1; sum = t.sum + o.value }
      ≡ added_to t o
  unfolding added_to with
  added_none e = simp add-zero refl ∙ added N e

-- one slot on
module _ (h : Head) (b : Cells) (i : ℕ) where
  pub begun_next : begun_before h b (i + 1) ≡ begun_before h b i ++ list_of (begins_at h b i)
  unfolding begun_before
  begun_next = rw (add-one i)

  -- where a progress stands
  module _ (p : Progress) (e : p ≡ progress_at h b i) where
    pub progress-place : p.pass.walk.at ≡ i
    unfolding progress_at pass_at walk_at
    progress-place = ap (λ (q : Progress). q.pass.walk.at) e

    pub progress-here : p ≡ progress_at h b p.pass.walk.at
    progress-here = e ∙ ap (progress_at h b) (sym progress-place)

-- before slot 0
pub progress_first : (h : Head) (b : Cells) (p : Pass) → p ≡ pass_at h b 0
    → record { pass = p; spans = 0; totals = record { actual = 0; substituted = 0; agreed = 0; none = 0; sum = 0 } } ≡ progress_at h b 0
unfolding progress_at begun_before totals_of total up_to
progress_first h b p e = rw e

-- the totals of all slots
module _ (h : Head) (b : Cells) (t : Totals) (e : t ≡ totals_of (outcomes h b)) where
  pub filled_low : Bounded h → t.substituted + t.agreed ≤ 230_400
  unfolding totals_of outcomes
  filled_low w =
      let s : t.substituted ≡ total (one is_s) (first_slots h b (slot_count h)) = ap (λ (x : Totals). x.substituted) e in
      let f : t.agreed ≡ total (one is_f) (first_slots h b (slot_count h)) = ap (λ (x : Totals). x.agreed) e in
      omega (arith, count_high h w, count_low h b (slot_count h) is_s, count_low h b (slot_count h) is_f)

  -- the trailer's figures of what a book publishes
  pub figures_found : (first spans₀ : ℕ) → first ≡ first_day h → spans₀ ≡ length (spans h b)
      → record {
        first = first;
        days = h.days;
        interval = h.interval;
        spans = spans₀;
        actual = t.actual;
        substituted = t.substituted + t.agreed;
        none = t.none;
        sum = t.sum;
        layout = 3;
      } ≡ figures_of (published h b)
  unfolding figures_of published totals_of
  figures_found first spans₀ x y = rw (x, y, e)

-- the totals of the slots so far take one slot more
pub countable : (h : Head) (b : Cells) (i : ℕ) (w : Bounded h) → AgreedLow b.agreed → WidthsLow b.widths → i ≤ slot_count h
    → (t : Totals) → t ≡ totals_of (first_slots h b i) → Countable t
unfolding totals_of
countable h b i w low narrow l t e =
    let x : t.actual ≡ total (one is_a) (first_slots h b i) = ap (λ (q : Totals). q.actual) e in
    let y : t.substituted ≡ total (one is_s) (first_slots h b i) = ap (λ (q : Totals). q.substituted) e in
    let f : t.agreed ≡ total (one is_f) (first_slots h b i) = ap (λ (q : Totals). q.agreed) e in
    let z : t.none ≡ total (one is_n) (first_slots h b i) = ap (λ (q : Totals). q.none) e in
    let s : t.sum ≡ total (λ o. o.value) (first_slots h b i) = ap (λ (q : Totals). q.sum) e in
    record {
      actual = omega (arith, count_high h w, count_low h b i is_a);
      substituted = omega (arith, count_high h w, count_low h b i is_s);
      agreed = omega (arith, count_high h w, count_low h b i is_f);
      none = omega (arith, count_high h w, count_low h b i is_n);
      sum = omega (arith, count_high h w, sum_low h b i w low narrow);
    }
