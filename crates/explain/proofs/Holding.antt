-- The span that a slot lies in: its boundaries, and its figures and scaling from the sums of its slots.
use mathlib.Core.Bool.{Bool, true, false}
use mathlib.Core.List.{List}
use mathlib.Core.Option.{Option, none, some}
use mathlib.Core.Path.{◌≡◌, refl, sym, ap, ◌∙◌}
use Prim.Native.Nat.{ℕ, zero, suc, ◌+◌, ◌-◌, ◌*◌, ◌/◌, ◌≤◌, ◌<◌}
use native.Mathlib.Nat.{mul_comm, mul-le-mul_right, le-div_iff_mul-le, div-lt_iff_lt-mul}
use native.Mathlib.Numerals.{sub-one}
use native.Mathlib.Omega.{arith}
use lib.Dec.{eqb}
use lib.ListN.{get_or}
use Rattle.std.specs.Prelude.{Some, None}
use Rattle.rules.specs.declared.Head.{Head}
use Rattle.rules.specs.declared.spans.Summary.{Summary}
use Rattle.rules.specs.Opening.{Cells, slots_per_day, slot_count}
use Rattle.rules.specs.Spans.{is_read, last_read, next_read, start, slots_in, range, R, actual_sum, state_of, T, all_zero, e, E, P}
use Rattle.rules.specs.Inner.Summaries.{summary_of}
use Rattle.rules.specs.Inner.Stretches.{scaling_at, span_stretch, stretch_of, stretch_on, stretch_at}
use Rattle.rules.proofs.Bounds.{Bounded}
use Rattle.rules.proofs.Boundaries.{last_tells, next_tells}
use Rattle.rules.proofs.Stretches.{is_read_lem, unread}
use Rattle.rules.proofs.SpanSums.{compared_advance, summary, weights, compared_is}
use Rattle.explain.specs.declared.Spanned.{Spanned}
use Rattle.explain.specs.Explain.{spanned_by, earlier, later}
use Rattle.explain.specs.Inner.Holding.{unscaled, scaling_with, spanned_with, Between}

-- the search back for a boundary with a reading: the last below boundary d
abbrev pub last_below : List ℕ → ℕ → Option ℕ
last_below r zero = none
last_below r (suc d) = last_read r d

module _ (r : List ℕ) where
  last_here : (d : ℕ) → is_read r d ≡ true → last_read r d ≡ some d
  unfolding last_read
  last_here zero t = rw t
  last_here (suc d) t = rw t

  last_before : (d : ℕ) → is_read r d ≡ false → last_read r d ≡ last_below r d
  unfolding last_read
  last_before zero t = rw t
  last_before (suc d) t = rw t

  pub last_at : (d : ℕ) → 0 < d → (get_or r (d - 1) 0 ≡ 0 → ⊥) → last_below r d ≡ some (d - 1)
  last_at zero l t = absurd (omega arith)
  last_at (suc d) l t = rw sub-one (last_here d (is_read_lem r d (rw sub-one at t)))

  pub last_on : (d : ℕ) → 0 < d → get_or r (d - 1) 0 ≡ 0 → last_below r d ≡ last_below r (d - 1)
  last_on zero l t = absurd (omega arith)
  last_on (suc d) l t = rw sub-one (last_before d (unread r d (rw sub-one at t)))

-- a slot between two boundaries
pub between_inside : (h : Head) (i first last : ℕ) → Between h i first last → i < slot_count h
unfolding slot_count
between_inside h i first last p =
    let l : last * slots_per_day h ≤ slots_per_day h * h.days =
    rw (mul_comm (slots_per_day h) h.days) (mul-le-mul_right (slots_per_day h) p.within) in
    omega (arith, p.to)

pub between_read : (h : Head) → Bounded h → (r : List ℕ) (i first last : ℕ) → last_read r (i / slots_per_day h) ≡ some first
    → next_read r (i / slots_per_day h + 1) (h.days - i / slots_per_day h) ≡ some last
    → Between h i first last
between_read h w r i first last p q =
    let f = last_tells r (i / slots_per_day h) first p in
    let g = next_tells r (h.days - i / slots_per_day h) (i / slots_per_day h + 1) last q in
    let n : 0 < slots_per_day h = omega (arith, w.day_low) in
    record {
      from = (le-div_iff_mul-le n).0 f.low;
      to = (div-lt_iff_lt-mul n).0 (omega (arith, g.low));
      ordered = omega (arith, f.low, g.low);
      within = omega (arith, g.low, g.high);
    }

-- its figures and scaling, from the sums of its slots
module _ (h : Head) (b : Cells) (first last : ℕ) where
  module _ (m : Summary) (p : m ≡ summary h b first last (slots_in h b first last)) where
    abbrev figures : Spanned
    figures = record {
      first = first;
      last = last;
      lowest = (range h b first last).lowest;
      highest = (range h b first last).highest;
      advance = R h b first last;
      actual = actual_sum h b first last;
      state = state_of h b first last;
    }

    figures_are : spanned_with h b.readings b.widths first last m ≡ figures
    unfolding spanned_with actual_sum summary_of
    figures_are = rw (compared_is h b first last m p, p)

    pub spanned_found : Some (spanned_with h b.readings b.widths first last m) ≡ spanned_by h b (some first) (some last)
    unfolding spanned_by
    spanned_found = ap Some figures_are

    module _ (i : ℕ) (before : Summary) (q : before ≡ summary h b first last (i - start h b first last)) where
      scaling_before : scaling_with 1 m before (R h b first last) ≡ scaling_at h b first last i
      unfolding scaling_with T actual_sum all_zero E e P summary_of
      scaling_before =
          rw (
            p,
            q,
            weights h b first last (all_zero h b first last) (slots_in h b first last),
            weights h b first last (all_zero h b first last) (i - start h b first last),
          )

      pub held_scaling : (s : Spanned) → s ≡ spanned_with h b.readings b.widths first last m
          → scaling_with s.state m before s.advance ≡ (span_stretch h b first last i).by
      unfolding span_stretch scaling_with
      held_scaling s f =
          let state : s.state ≡ state_of h b first last = ap (λ (x : Spanned). x.state) (f ∙ figures_are) in
          let r : s.advance ≡ R h b first last = ap (λ (x : Spanned). x.advance) (f ∙ figures_are) in
          rw (state, r) (go (eqb (state_of h b first last) 1) refl)
        where
          go : (t : Bool) → eqb (state_of h b first last) 1 ≡ t
              → scaling_with (state_of h b first last) m before (R h b first last) ≡ (span_stretch h b first last i).by
          go true t = rw t scaling_before
          go false t = rw t

-- state 1 is given only where R ≥ V
pub spanned_advance : (h : Head) (readings widths : List ℕ) (first last : ℕ) (m : Summary) (s : Spanned)
    → s ≡ spanned_with h readings widths first last m → s.state ≡ 1 → m.actual ≤ s.advance
unfolding spanned_with
spanned_advance h readings widths first last m s e z =
    let state = ap (λ (x : Spanned). x.state) e in
    let r = ap (λ (x : Spanned). x.advance) e in
    rw r (compared_advance h readings widths first last m _ refl (sym state ∙ z))

-- a slot that lies in no span
module _ (h : Head) (b : Cells) (i : ℕ) where
  abbrev d : ℕ
  d = i / slots_per_day h

  pub outside_first : last_read b.read_versions d ≡ none
      → (None ≡ spanned_by h b (earlier b d) (later h b d)) × (unscaled ≡ (stretch_at h b i).by)
  unfolding spanned_by stretch_at stretch_on stretch_of
  outside_first e = rw e (refl, go (next_read b.read_versions (d + 1) (h.days - d)))
    where
      go : (l : Option ℕ) → unscaled ≡ (stretch_of h b none l i).by
      go (some last) = refl
      go none = refl

  pub outside_last : (first : ℕ) → last_read b.read_versions d ≡ some first → next_read b.read_versions (d + 1) (h.days - d) ≡ none
      → (None ≡ spanned_by h b (earlier b d) (later h b d)) × (unscaled ≡ (stretch_at h b i).by)
  unfolding spanned_by stretch_at stretch_on stretch_of
  outside_last first e f = rw (e, f) (refl, refl)

  pub inside_both : (first last : ℕ) → last_read b.read_versions d ≡ some first → next_read b.read_versions (d + 1) (h.days - d) ≡ some
      last
      → (spanned_by h b (some first) (some last) ≡ spanned_by h b (earlier b d) (later h b d))
      × (span_stretch h b first last i ≡ stretch_at h b i)
  unfolding stretch_at stretch_on stretch_of
  inside_both first last e f = rw (e, f) (refl, refl)
