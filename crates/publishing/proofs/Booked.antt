-- The records of a book's outcomes and spans pass the reader's tests of the two tables.
use mathlib.Core.Path.{◌≡◌, refl, sym, ap, ◌∙◌}
use mathlib.Core.Bool.{Bool, true, false, not, ◌&&◌, or-true}
use Prim.Native.Nat.{ℕ, zero, suc, ◌-◌, ◌*◌, ◌≤◌, ◌<◌}
use native.Mathlib.Omega.{arith}
use borrow.Author.Tests.{eqb-true, eq-eqb, lt-ltb, le-leb}
use lib.Dec.{ltb, eqb}
use lib.ListN.{length, get_or}
use Rattle.base.specs.Lists.{sum, any, every, all, same, implies}
use Rattle.base.proofs.Logic.{both}
use Rattle.base.proofs.Sums.{any_cong, at_all}
use Rattle.rules.specs.declared.Head.{Head}
use Rattle.rules.specs.declared.Outcome.{Outcome}
use Rattle.rules.specs.declared.Quality.{Quality}
use Rattle.rules.specs.declared.Quality.TheVariants.{S, N}
use Rattle.rules.specs.declared.Span.{Span}
use Rattle.rules.specs.Opening.{Cells, slots_per_day}
use Rattle.rules.specs.Spans.{is_s, is_n, is_scaled, start, slots_in, span_of, no_span, outcome_at, spans}
use Rattle.rules.specs.Inner.Lent.{AgreedLow, WidthsLow}
use Rattle.rules.proofs.Bounds.{Bounded}
use Rattle.rules.proofs.Qualities.{Form}
use Rattle.rules.proofs.Qualities.Filled.{delivered, agreed, outage, linear, same_day, nothing}
use Rattle.rules.proofs.Qualities.Form.{unscaled, scaled_linear, scaled_same_day}
use Rattle.rules.proofs.Neighbours.{Neighbours, each_span_lem, side_by_side}
use Rattle.rules.proofs.Outcomes.{outcome_form, scaled_inside}
use Rattle.rules.proofs.States.{state_low, range_ordered, range_low, open_exactly, scaled_exactly, scaled_whole, scaled_within, agreed_no_s}
use Rattle.file.specs.Reader.{Tables, of_quality, scaled, unscaled as is_unscaled, start_of, slots_of, has, record_ok, in_range, state_rule}
use Rattle.file.specs.Reader.{span_ok, state_ok, outside_ok, table_tests}
use Rattle.file.specs.Contents.{slot_record, span_record}
use Rattle.file.proofs.Accepted.{Tests, tests_s, tests_n}
use Rattle.file.proofs.Outside.{covers}

-- every form of an outcome is one that the reader takes
form_ok : {o : Outcome} → Form o → record_ok (slot_record o) ≡ true
unfolding record_ok
form_ok (unscaled (delivered v) l) = refl
form_ok (unscaled (agreed v) l) = rw (le-leb v 99_999_999 l)
form_ok (unscaled outage l) = refl
form_ok (unscaled (linear v) l) = refl
form_ok (unscaled (same_day v) l) = refl
form_ok (unscaled nothing l) = refl
form_ok (scaled_linear v) = refl
form_ok (scaled_same_day v) = refl

implied : (a b : Bool) → (a ≡ true → b ≡ true) → implies a b ≡ true
implied true b h = h refl
implied false b h = refl

same_own : (a : Bool) → same a a ≡ true
same_own true = refl
same_own false = refl

-- the rule of a span's state, from what a book says of it
rule_ok : (state : ℕ) (has_n has_scaled has_unscaled has_s : Bool) (lowest values highest : ℕ) → eqb state 2 ≡ has_n → eqb state 1 ≡
    has_scaled
    → (state ≡ 1 → has_unscaled ≡ false) → (state ≡ 1 → (lowest ≤ values) × (values ≤ highest)) → (state ≡ 0 → has_s ≡ false)
    → every (state_rule state has_n has_scaled has_unscaled has_s (in_range lowest values highest)) ≡ true
rule_ok state has_n has_scaled has_unscaled has_s lowest values highest n s u v a =
    rw (
      ← n,
      ← s,
      same_own (eqb state 2),
      same_own (eqb state 1),
      implied (eqb state 1) (not has_unscaled) (λ e. rw (u (eqb-true state 1 e))),
      implied (eqb state 1) (in_range lowest values highest)
          (λ e. let (p, q) = v (eqb-true state 1 e) in both _ _ (le-leb lowest values p) (le-leb values highest q)),
      implied (eqb state 0) (not has_s) (λ e. rw (a (eqb-true state 0 e))),
    )

-- the tables of a book
abbrev pub book_tables : Head → Cells → Tables
book_tables h b = record {
  per_day = slots_per_day h;
  days = h.days;
  spans = length (spans h b);
  slot = λ i. slot_record (outcome_at h b i);
  span = λ j. span_record (get_or (spans h b) j no_span);
}

module _ (h : Head) (bounds : Bounded h) (b : Cells) (narrow : WidthsLow b.widths) where
  abbrev t : Tables
  t = book_tables h b

  module _ (j : ℕ) (l : j < length (spans h b)) where
    abbrev s : Span
    s = get_or (spans h b) j no_span

    here : Neighbours h b s
    here = each_span_lem h b j l

    state_fits : s.state ≤ 3
    unfolding span_of
    state_fits = rw (ap (λ (x : Span). x.state) here.figures) (state_low h b s.first s.last)

    span_ok_lem : span_ok t j ≡ true
    unfolding span_ok
    span_ok_lem =
        rw (
          lt-ltb _ _ here.ordered,
          le-leb _ _ here.within,
          follows j l,
          le-leb _ _ (range_ordered h bounds b s here),
          le-leb _ _ (range_low h bounds b s here narrow),
          le-leb _ _ state_fits,
        )
      where
        -- each begins where the one before ended
        follows : (k : ℕ) → k < length (spans h b)
            → implies (ltb 0 k) (eqb (get_or (spans h b) k no_span).first (get_or (spans h b) (k - 1) no_span).last) ≡ true
        follows zero m = refl
        follows (suc k) m =
            let e : suc k - 1 ≡ k = omega arith in
            rw (e, eq-eqb _ _ (side_by_side h b k m), or-true)

    has_is : (q : Quality) (p : Quality → Bool) → Tests q p
        → has t (of_quality q) j
        ≡ any (λ i. p (outcome_at h b i).quality) (start h b s.first s.last) (slots_in h b s.first s.last)
    unfolding start slots_in
    has_is q p tests = any_cong _ _ _ _ (λ i _ _. tests.same (outcome_at h b i).quality)

    state_ok_lem : state_ok t j ≡ true
    unfolding state_ok start slots_in
    state_ok_lem =
        rule_ok s.state (has t (of_quality N) j) (has t scaled j) (has t is_unscaled j) (has t (of_quality S) j)
        s.lowest (sum (λ i. (outcome_at h b i).value) (start_of t j) (slots_of t j)) s.highest
        (open_exactly h bounds b s here ∙ sym (has_is N is_n tests_n))
        (scaled_exactly h bounds b s here)
        (λ z.
        any_cong _ _ _ _ (λ i _ _. ap (λ (q : Bool). q && not (is_scaled (outcome_at h b i).method))
        (tests_s.same (outcome_at h b i).quality))
        ∙ scaled_whole h bounds b s here z)
        (scaled_within h bounds b s here)
        (λ z. has_is S is_s tests_s ∙ agreed_no_s h bounds b s here z)

  spans_ok_lem : all (span_ok t) 0 (length (spans h b)) ≡ true
  spans_ok_lem = at_all (span_ok t) (length (spans h b)) span_ok_lem

  outside_ok_lem : (i : ℕ) → outside_ok t i ≡ true
  outside_ok_lem i =
      covers t spans_ok_lem i (λ e.
      let (j, l, p, q) = scaled_inside h bounds b i e in
      record { by = j; short = l; from = p; to = q })

  pub book_ok_lem : AgreedLow b.agreed → every (table_tests t) ≡ true
  book_ok_lem low =
      rw (
        at_all (λ i. record_ok (slot_record (outcome_at h b i))) (slots_per_day h * h.days)
            (λ i _. form_ok (outcome_form h bounds b low i)),
        spans_ok_lem,
        at_all (state_ok t) (length (spans h b)) state_ok_lem,
        at_all (outside_ok t) (slots_per_day h * h.days) (λ i _. outside_ok_lem i),
      )
