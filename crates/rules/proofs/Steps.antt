-- One slot of the pass: its outcome in the stretch that it lies in, and the stretch that is carried on.
use mathlib.Core.Bool.{Bool, true, false, cond, ◌&&◌, and-true, and-false}
use mathlib.Core.Option.{Option, none, some}
use mathlib.Core.Path.{◌≡◌, refl, sym, ap, ◌∙◌}
use Prim.Native.Nat.{ℕ, suc, ◌+◌, ◌-◌, ◌*◌, ◌/◌, ◌≤◌, ◌<◌, zero-le}
use native.Mathlib.Nat.{le-div_iff_mul-le, div-lt_iff_lt-mul, add-zero, mul-le-mul, le_refl, le_trans}
use native.Mathlib.Numerals.{add-one}
use native.Mathlib.Omega.{arith}
use borrow.Author.Tests.{ne_eqb}
use lib.Dec.{eqb}
use Rattle.base.proofs.Sums.{sum_grows, any_some}
use Rattle.rules.specs.declared.Head.{Head}
use Rattle.rules.specs.declared.Outcome.{Outcome}
use Rattle.rules.specs.declared.Quality.TheVariants.{S}
use Rattle.rules.specs.declared.stretch.Stretch.{Stretch}
use Rattle.rules.specs.Opening.{Cells, slots_per_day, slot_count}
use Rattle.rules.specs.Filling.{filled_at, shape_at}
use Rattle.rules.specs.Spans.{is_s, last_read, next_read, filled, shape, start, slots_in, state_of, T, all_zero, e, E, C, P, new_value}
use Rattle.rules.specs.Spans.{in_span, between, outcome_at}
use Rattle.rules.specs.Inner.Lent.{WidthsLow}
use Rattle.rules.specs.Inner.Summaries.{scaled_by, Scales}
use Rattle.rules.specs.Inner.Stretches.{unscaled_to, scaling_at, span_stretch, stretch_of, stretch_on, stretch_at, carried_at, scales}
use Rattle.rules.specs.Inner.Stretches.{fit_outcome, fit_next, Scalable}
use Rattle.rules.proofs.Bounds.{Bounded, cap, cap_low, shapes_all}
use Rattle.rules.proofs.Boundaries.{last_tells, next_tells}
use Rattle.rules.proofs.Qualities.{filled_form, method_low}
use Rattle.rules.proofs.Places.{span_end, slots_within}
use Rattle.rules.proofs.Outcomes.{advance_low}
use Rattle.rules.proofs.Scaling.{running, zero_each, shape_positive}
use Rattle.rules.proofs.ValueBounds.{shape_small}
use Rattle.rules.proofs.Summaries.{sum_small}

-- the outcome of slot i of a scaled span
abbrev newly : Head → Cells → ℕ → ℕ → ℕ → Outcome
newly h b first last i =
    cond (is_s (filled h b first last i).quality)
    (record { value = new_value h b first last i; quality = S; method = (filled h b first last i).method + 16 })
    (filled h b first last i)

-- such a span before slot i
abbrev within : Head → Cells → ℕ → ℕ → ℕ → Stretch
within h b first last i = record { until = last * slots_per_day h; by = scaling_at h b first last i }

-- slot i in an unscaled stretch or in a scaled span: the stretch before it, its outcome, the stretch behind it
data Slot (h : Head) (b : Cells) (i : ℕ) : Stretch → Outcome → Stretch → Type 0 where
  unscaled : (until : ℕ) → Slot h b i (unscaled_to until) (filled_at h b.slots b.agreed b.holidays i) (unscaled_to until)
  scaled : (first last : ℕ) → start h b first last ≤ i → i < start h b first last + slots_in h b first last → first ≤ last → last ≤ h.days
      → Slot h b i (within h b first last i)
      (newly h b first last i)
      (within h b first last (suc i))

module _ (h : Head) (w : Bounded h) (b : Cells) (i : ℕ) where
  in_span_lem : (first last : ℕ) → start h b first last ≤ i → i < start h b first last + slots_in h b first last → first ≤ last → last ≤
      h.days
      → Slot h b i (span_stretch h b first last i) (in_span h b first last i) (span_stretch h b first last (suc i))
  unfolding span_stretch in_span
  in_span_lem first last l m j k = go (eqb (state_of h b first last) 1) refl
    where
      go : (t : Bool) → eqb (state_of h b first last) 1 ≡ t
          → Slot h b i (span_stretch h b first last i) (in_span h b first last i) (span_stretch h b first last (suc i))
      go true t = rw (t, and-true) (scaled first last l m j k)
      go false t = rw (t, and-false) (unscaled (last * slots_per_day h))

  -- the day of slot i
  abbrev d : ℕ
  d = i / slots_per_day h

  slot : Slot h b i (stretch_at h b i) (outcome_at h b i) (carried_at h b (suc i))
  unfolding stretch_at stretch_on stretch_of carried_at outcome_at between start
  slot = go (last_read b.read_versions d) (next_read b.read_versions (d + 1) (h.days - d)) refl refl
    where
      go : (f l : Option ℕ) → last_read b.read_versions d ≡ f → next_read b.read_versions (d + 1) (h.days - d) ≡ l
          → Slot h b i (stretch_of h b f l i) (between h b f l i) (stretch_of h b f l (suc i))
      go (some first) (some last) p q =
          let f = last_tells b.read_versions d first p in
          let g = next_tells b.read_versions (h.days - d) (d + 1) last q in
          let n : 0 < slots_per_day h = omega (arith, w.day_low) in
          let m : i < last * slots_per_day h = (div-lt_iff_lt-mul n).0 (omega (arith, g.low)) in
          let k : first ≤ last = omega (arith, f.low, g.low) in
          in_span_lem first last ((le-div_iff_mul-le n).0 f.low) (rw (span_end h b first last k) m) k (omega (arith, g.low, g.high))
      go (some first) none p q = unscaled (slot_count h)
      go none (some last) p q = unscaled (last * slots_per_day h)
      go none none p q = unscaled (slot_count h)

  -- in a scaled span
  module _ (first last : ℕ) (l : start h b first last ≤ i) (m : i < start h b first last + slots_in h b first last) where
    abbrev o : Outcome
    o = filled h b first last i

    abbrev x : ℕ
    x = shape h b first last i

    -- P of the next slot
    passed : P h b first last (suc i) ≡ P h b first last i + e h b first last i
    unfolding P C
    passed = rw add-one at (running h b first last i l)

    module _ (q : is_s o.quality ≡ true) where
      -- where all e are 0, 1 is added
      pub weight : e h b first last i ≡ x + cond (all_zero h b first last) 1 0
      unfolding e
      weight = rw q (go (all_zero h b first last) refl)
        where
          go : (z : Bool) → all_zero h b first last ≡ z → cond z 1 x ≡ x + cond z 1 0
          go true z = rw (zero_each h b first last z i l m)
          go false z = sym (add-zero x)

      new_value_lem : (scaled_by x (scaling_at h b first last i)).value ≡ new_value h b first last i
      unfolding scaled_by new_value
      new_value_lem = rw (← weight, ← running h b first last i l)

      scaling_on : (scaled_by x (scaling_at h b first last i)).next ≡ scaling_at h b first last (suc i)
      unfolding scaled_by
      scaling_on = rw (← weight, passed)

      -- the span is scaled
      pub whole_low : 0 < E h b first last
      whole_low =
          shape_positive h b first last
          (any_some (λ j. is_s (filled h b first last j).quality) (start h b first last) (slots_in h b first last) i l m q)

      scaling : scales (within h b first last i) ≡ true
      scaling = let n : E h b first last ≡ 0 → ⊥ = omega (arith, whole_low) in rw (ne_eqb _ _ n)

    scaling_kept : is_s o.quality ≡ false → scaling_at h b first last i ≡ scaling_at h b first last (suc i)
    unfolding e
    scaling_kept q =
        let z : e h b first last i ≡ 0 = rw q in
        rw (passed, z, add-zero)

  fit_outcome_lem : {before after : Stretch} {x : Outcome} → Slot h b i before x after
      → fit_outcome (filled_at h b.slots b.agreed b.holidays i) (shape_at h b.slots b.agreed b.holidays i) before ≡ x
  unfolding fit_outcome
  fit_outcome_lem (unscaled until) = rw and-false
  fit_outcome_lem (scaled first last l m j k) = go (is_s (filled h b first last i).quality) refl
    where
      go : (q : Bool) → is_s (filled h b first last i).quality ≡ q
          → fit_outcome (filled h b first last i) (shape h b first last i) (within h b first last i) ≡ newly h b first last i
      go true q = rw (q, scaling first last l m q, new_value_lem first last l m q)
      go false q = rw q

  fit_next_lem : {before after : Stretch} {x : Outcome} → Slot h b i before x after
      → fit_next (filled_at h b.slots b.agreed b.holidays i) (shape_at h b.slots b.agreed b.holidays i) before ≡ after
  unfolding fit_next
  fit_next_lem (unscaled until) = rw and-false
  fit_next_lem (scaled first last l m j k) = go (is_s (filled h b first last i).quality) refl
    where
      go : (q : Bool) → is_s (filled h b first last i).quality ≡ q
          → fit_next (filled h b first last i) (shape h b first last i) (within h b first last i) ≡ within h b first last (suc i)
      go true q = rw (q, scaling first last l m q, scaling_on first last l m q)
      go false q = rw (q, scaling_kept first last l m q)

  module _ (first last : ℕ) where
    e_small : (j : ℕ) → e h b first last j ≤ 12 * cap h
    unfolding e
    e_small j =
        go (is_s (filled h b first last j).quality) (all_zero h b first last) _ (shape_small h w b.slots b.agreed b.holidays j)
      where
        go : (q z : Bool) (v : ℕ) → v ≤ 12 * cap h → cond q (cond z 1 v) 0 ≤ 12 * cap h
        go true true v l = omega (arith, cap_low h w)
        go true false v l = l
        go false z v l = zero-le

    -- E fits, and with it the running sums
    whole_high : first ≤ last → last ≤ h.days → E h b first last ≤ 115_200_000_000
    unfolding E start slots_in
    whole_high l m =
        let n : (last - first) * slots_per_day h ≤ slot_count h = omega (arith, slots_within h first last l m) in
        le_trans (le_trans (sum_small (e h b first last) (12 * cap h) e_small (first * slots_per_day h) ((last - first) * slots_per_day h))
        (mul-le-mul n (le_refl _))) (shapes_all h w)

    room : start h b first last ≤ i → i < start h b first last + slots_in h b first last → is_s (filled h b first last i).quality ≡ true
        → P h b first last i + (shape h b first last i + cond (all_zero h b first last) 1 0) ≤ E h b first last
    unfolding C E
    room l m q =
        rw (← weight first last l m q, ← running h b first last i l)
        (sum_grows (e h b first last) (start h b first last) {j = i + 1 - start h b first last} {k = slots_in h b first last} (omega arith))

  scaled_well : WidthsLow b.widths → {before after : Stretch} {x : Outcome} → Slot h b i before x after
      → is_s (filled_at h b.slots b.agreed b.holidays i).quality ≡ true → (before.by.whole ≡ 0 → ⊥)
      → Scales (shape_at h b.slots b.agreed b.holidays i) before.by
  unfolding T
  scaled_well wide (unscaled until) q t = absurd (t refl)
  scaled_well wide (scaled first last l m j k) q t =
      record {
        t_low = omega (arith, advance_low h b first last wide);
        room = room first last l m q;
        whole_high = whole_high first last j k;
        whole_low = whole_low first last l m q;
      }

  -- slot i itself
  step_fits : WidthsLow b.widths
      → Scalable (filled_at h b.slots b.agreed b.holidays i) (shape_at h b.slots b.agreed b.holidays i) (stretch_at h b i)
  step_fits wide = record { method_low = method_low (filled_form h b.slots b.agreed b.holidays i); scales = scaled_well wide slot }

  -- the slot and its shape, in the stretch that it lies in
  module _ (o : Outcome) (x : ℕ) (here : Stretch) (inside : here ≡ stretch_at h b i)
      (filled : o ≡ filled_at h b.slots b.agreed b.holidays i)
      (shaped : x ≡ shape_at h b.slots b.agreed b.holidays i) where
    pub step_outcome : fit_outcome o x here ≡ outcome_at h b i
    step_outcome = (λ t. fit_outcome (filled t) (shaped t) (inside t)) ∙ fit_outcome_lem slot

    pub step_carried : fit_next o x here ≡ carried_at h b (i + 1)
    step_carried = (λ t. fit_next (filled t) (shaped t) (inside t)) ∙ fit_next_lem slot ∙ ap (carried_at h b) (sym (add-one i))

    pub step_scalable : WidthsLow b.widths → Scalable o x here
    step_scalable wide = rw (filled, shaped, inside) (step_fits wide)

-- a stretch keeps its end
pub fit_until : (o : Outcome) (x : ℕ) (here : Stretch) → (fit_next o x here).until ≡ here.until
unfolding fit_next
fit_until o x here = go (is_s o.quality && scales here)
  where
    go : (t : Bool) → (cond t (record { until = here.until; by = (scaled_by x here.by).next }) here).until ≡ here.until
    go true = refl
    go false = refl
