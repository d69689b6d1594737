-- Two books that differ at slot i alone: the outcome of every slot that is not reached, and of every span without a slot of clauses 1 to 3.
use mathlib.Core.Logic.{inl, inr}
use mathlib.Core.Path.{◌≡◌, refl, sym, ap, ◌∙◌}
use Prim.Native.Nat.{ℕ, ◌+◌, ◌-◌, ◌*◌, ◌≤◌, ◌<◌}
use native.Mathlib.Omega.{arith}
use lib.ListN.{length, get_or}
use Rattle.rules.specs.declared.Head.{Head}
use Rattle.rules.specs.declared.Outcome.{Outcome}
use Rattle.rules.specs.declared.Span.{Span}
use Rattle.rules.specs.Opening.{Slots, Cells, slots_per_day, slot_count}
use Rattle.rules.specs.Spans.{no_span, start, slots_in, span_of, in_span, outcome_at, spans}
use Rattle.rules.proofs.Bounds.{Bounded}
use Rattle.rules.proofs.Neighbours.{Neighbours, neighbours, each_span_lem, span_found}
use Rattle.rules.proofs.Places.{Place, in_span_lem, place, span_end, slots_within}
use Rattle.rules.proofs.Places.Place.{outside, inside}
use Rattle.reach.specs.Reach.{Met, Reached, Clear}
use Rattle.reach.proofs.Alike.{SameAt}
use Rattle.reach.proofs.Fillings.{fills_same}
use Rattle.book.specs.Cells.{with_slots}
use Rattle.reach.proofs.Spans.{Kept, span_same, in_span_same}
use Rattle.reach.proofs.Boundaries.{same_boundaries}

module _ (h : Head) (w : Bounded h) (b : Cells) (t : Slots) (i : ℕ) (in_book : i < slot_count h)
    (same : (k : ℕ) → (k ≡ i → ⊥) → SameAt b.slots t k) where
  abbrev c : Cells
  c = with_slots b t

  abbrev n : ℕ
  n = slots_per_day h

  slot_kept : (j : ℕ) → j < slot_count h → (Met h b c i j → ⊥) → Kept h b t j
  slot_kept j lt free =
      fills_same h b.slots t i in_book same b.agreed b.holidays (omega (arith, w.day_low)) j lt
      (λ z. free (inl z)) (λ r. free (inr (inl (inl r)))) (λ r. free (inr (inr (inl r))))

  -- a span without a slot of 1 to 3
  module _ (first last : ℕ) (ordered : first ≤ last) (within : last ≤ h.days)
      (free : (m : ℕ) → first * n ≤ m → m < last * n → Met h b c i m → ⊥) where
    end : first * n + (last - first) * n ≡ last * n
    unfolding start slots_in
    end = span_end h b first last ordered

    all_kept : (j : ℕ) → first * n ≤ j → j < first * n + (last - first) * n → Kept h b t j
    all_kept j l m = slot_kept j (omega (arith, slots_within h first last ordered within)) (free j l (omega (arith, end)))

    span_kept : span_of h b first last ≡ span_of h c first last
    span_kept = span_same h b t first last all_kept

    in_span_kept : (j : ℕ) → first * n ≤ j → j < last * n → in_span h b first last j ≡ in_span h c first last j
    in_span_kept j l m = in_span_same h b t first last all_kept j l (omega (arith, end))

  pub each_span_kept : (k : ℕ) → k < length (spans h b)
      → Clear h b c i (get_or (spans h b) k no_span)
      → get_or (spans h b) k no_span ≡ get_or (spans h c) k no_span
  unfolding span_of
  each_span_kept k l free =
      let p = same_boundaries h b t k l in
      let s = each_span_lem h b k l in
      let first : (get_or (spans h b) k no_span).first ≡ p.first = ap (λ (x : Span). x.first) p.here in
      let last : (get_or (spans h b) k no_span).last ≡ p.last = ap (λ (x : Span). x.last) p.here in
      p.here
      ∙ span_kept p.first p.last (omega (arith, s.ordered)) (omega (arith, s.within)) (λ m x y. free m (rw (first, last) (x, y)))
      ∙ sym p.there

  -- a span that the readings of either book make: neighbouring boundaries with a reading
  module _ (j : ℕ) (lt : j < slot_count h) (free : Reached h b c i j → ⊥) where
    span_clear : (s : Span) → Neighbours h b s → s.first * n ≤ j → j < s.last * n → (m : ℕ) → s.first * n ≤ m → m < s.last * n
        → Met h b c i m → ⊥
    unfolding span_of
    span_clear s x l r m low high met =
        let (k, in_List, is) = span_found h b s.first s.last (omega (arith, x.ordered, x.within)) x.first_read x.next in
        free (inr (record { span = k; spanned = in_List; slot = m; held = rw is (low, high); met = met; holds = rw is (l, r) }))

    inside_kept : (s : Span) → Neighbours h b s → s.first * n ≤ j → j < s.last * n
        → in_span h b s.first s.last j ≡ in_span h c s.first s.last j
    inside_kept s x l r =
        in_span_kept s.first s.last (omega (arith, x.ordered)) x.within (span_clear s x l r) j l r

    pub outcome_kept : outcome_at h b j ≡ outcome_at h c j
    unfolding span_of
    outcome_kept = go (place h w b j) (place h w c j) refl refl
      where
        go : {x y : Outcome} → Place h b j x → Place h c j y → outcome_at h b j ≡ x → outcome_at h c j ≡ y → x ≡ y
        go outside outside p q = (slot_kept j lt (λ met. free (inl met))).0
        go (inside s x l r) y p q =
            inside_kept s x l r
            ∙ sym (in_span_lem h w c (span_of h c s.first s.last) (neighbours h c s.first s.last x.first_read x.next) j l r)
            ∙ q
        go outside (inside s x l r) p q =
            let s' = span_of h b s.first s.last in
            let x' = neighbours h b s.first s.last x.first_read x.next in
            sym p ∙ in_span_lem h w b s' x' j l r ∙ inside_kept s' x' l r
