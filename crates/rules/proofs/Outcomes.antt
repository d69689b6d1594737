-- The form and the size of a slot's outcome; a scaled one lies in a span.
use mathlib.Core.Bool.{true, false, false≢true}
use mathlib.Core.Path.{◌≡◌, refl, sym, ◌∙◌}
use Prim.Native.Nat.{ℕ, ◌+◌, ◌*◌, ◌≤◌, ◌<◌}
use native.Mathlib.Omega.{arith}
use lib.ListN.{length, get_or}
use Rattle.rules.specs.declared.Head.{Head}
use Rattle.rules.specs.declared.Outcome.{Outcome}
use Rattle.rules.specs.Opening.{Cells, slots_per_day}
use Rattle.rules.specs.Filling.{filled_at}
use Rattle.rules.specs.Spans.{is_scaled, start, slots_in, G, range, R, actual_sum, in_span, span_of, no_span, outcome_at, spans}
use Rattle.rules.specs.Inner.Lent.{AgreedLow, WidthsLow}
use Rattle.rules.proofs.Bounds.{Bounded}
use Rattle.rules.proofs.ValueBounds.{filled_low}
use Rattle.rules.proofs.Fillings.{spanned_by_lem}
use Rattle.rules.proofs.Qualities.{Filled, Form, filled_form, scaled_form}
use Rattle.rules.proofs.Qualities.Filled.{delivered, agreed, outage, linear, same_day, nothing}
use Rattle.rules.proofs.Qualities.Form.{unscaled}
use Rattle.rules.proofs.Neighbours.{span_found}
use Rattle.rules.proofs.Ranges.{advance_below, range_of_ordered, range_of_low, least_within}
use Rattle.rules.proofs.Scaling.{new_high}
use Rattle.rules.proofs.Places.{Place, place, span_end}
use Rattle.rules.proofs.Places.Place.{outside, inside}

module _ (h : Head) (b : Cells) (first last : ℕ) where
  -- its lowest and highest advance
  pub ends_ordered : (range h b first last).lowest ≤ (range h b first last).highest
  unfolding range
  ends_ordered = range_of_ordered _ _ _

  -- R lies between them
  pub advance_within : ((range h b first last).lowest ≤ R h b first last) × (R h b first last ≤ (range h b first last).highest)
  unfolding R
  advance_within = least_within (range h b first last) (actual_sum h b first last) ends_ordered

  pub highest_low : WidthsLow b.widths → (range h b first last).highest ≤ 99_999_999
  unfolding range G
  highest_low w = range_of_low _ _ _ (advance_below _ _) (w last)

  pub advance_low : WidthsLow b.widths → R h b first last ≤ 99_999_999
  advance_low w = omega (arith, advance_within.1, highest_low w)

filled_unscaled : {o : Outcome} → Filled o → is_scaled o.method ≡ false
filled_unscaled (delivered v) = refl
filled_unscaled (agreed v) = refl
filled_unscaled outage = refl
filled_unscaled (linear v) = refl
filled_unscaled (same_day v) = refl
filled_unscaled nothing = refl

-- slot i lies in a span
abbrev pub Covered : Head → Cells → ℕ → Type 0
Covered h b i =
    (j : ℕ) × (j < length (spans h b)) × ((get_or (spans h b) j no_span).first * slots_per_day h ≤ i)
    × (i < (get_or (spans h b) j no_span).last * slots_per_day h)

module _ (h : Head) (bounds : Bounded h) (b : Cells) where
  module _ (low : AgreedLow b.agreed) (i : ℕ) where
    form : Form (filled_at h b.slots b.agreed b.holidays i)
    form = unscaled (filled_form h b.slots b.agreed b.holidays i) (filled_low h bounds b.slots b.agreed b.holidays i low)

    span_form : (first last : ℕ) → Form (in_span h b first last i)
    span_form first last =
        spanned_by_lem Form h b first last i (λ q. scaled_form (filled_form h b.slots b.agreed b.holidays i) q _) form

    pub outcome_form : Form (outcome_at h b i)
    outcome_form = go (place h bounds b i)
      where
        go : {o : Outcome} → Place h b i o → Form o
        go outside = form
        go (inside s n l m) = span_form s.first s.last

    span_fits : WidthsLow b.widths → (first last : ℕ) → i < start h b first last + slots_in h b first last
        → (in_span h b first last i).value < 100_000_000
    span_fits w first last l =
        spanned_by_lem (λ o. o.value < 100_000_000) h b first last i
        (λ _. omega (arith, new_high h b first last i l, advance_low h b first last w))
        (omega (arith, filled_low h bounds b.slots b.agreed b.holidays i low))

    pub outcome_fits : WidthsLow b.widths → (outcome_at h b i).value < 100_000_000
    outcome_fits w = go (place h bounds b i)
      where
        go : {o : Outcome} → Place h b i o → o.value < 100_000_000
        go outside = omega (arith, filled_low h bounds b.slots b.agreed b.holidays i low)
        go (inside s n l m) = span_fits w s.first s.last (rw (span_end h b s.first s.last (omega (arith, n.ordered))) m)

  -- no 18 or 19 outside spans
  pub scaled_inside : (i : ℕ) → is_scaled (outcome_at h b i).method ≡ true → Covered h b i
  unfolding span_of
  scaled_inside i = go (place h bounds b i)
    where
      go : {o : Outcome} → Place h b i o → is_scaled o.method ≡ true → Covered h b i
      go outside t = absurd (false≢true (sym (filled_unscaled (filled_form h b.slots b.agreed b.holidays i)) ∙ t))
      go (inside s n l m) t =
          let (j, k, x) = span_found h b s.first s.last (omega (arith, n.ordered, n.within)) n.first_read n.next in
          (j, k, rw x l, rw x m)
