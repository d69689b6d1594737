-- A span's state and the outcomes of its slots go together as 01's reader demands.
use mathlib.Core.Bool.{Bool, true, false, cond, not, ◌&&◌, and-true, and-false, false≢true}
use mathlib.Core.Path.{◌≡◌, refl, sym, ap, ◌∙◌}
use Prim.Native.Nat.{ℕ, ◌+◌, ◌≤◌, ◌<◌}
use native.Mathlib.Omega.{arith}
use borrow.Author.Tests.{leb-true, eq-eqb}
use lib.Dec.{leb, eqb, lit≤}
use Rattle.base.specs.Lists.{sum, any}
use Rattle.base.proofs.Sums.{sum_cong, sum_plus, any_cong, any_none}
use Rattle.rules.specs.declared.Head.{Head}
use Rattle.rules.specs.declared.Outcome.{Outcome}
use Rattle.rules.specs.declared.Quality.TheVariants.{S}
use Rattle.rules.specs.declared.Span.{Span}
use Rattle.rules.specs.Opening.{Cells}
use Rattle.rules.specs.Inner.Lent.{WidthsLow}
use Rattle.rules.specs.Spans.{is_s, is_n, actual_in, is_scaled, is_near, state_by, filled, start, slots_in, range, R, actual_sum, state_of}
use Rattle.rules.specs.Spans.{new_value, in_span, span_of, outcome_at}
use Rattle.rules.proofs.Bounds.{Bounded}
use Rattle.rules.proofs.Qualities.{Filled, filled_form}
use Rattle.rules.proofs.Qualities.Filled.{delivered, agreed, outage, linear, same_day, nothing}
use Rattle.rules.proofs.Neighbours.{Neighbours}
use Rattle.rules.proofs.Scaling.{new_zero, new_total}
use Rattle.rules.proofs.Places.{span_end, in_span_lem}
use Rattle.rules.proofs.Outcomes.{ends_ordered, highest_low, advance_within}

-- what a state says of its span: whether it has an N, an S, and R ≥ V
pub record Stated (has_n has_s reached : Bool) (state : ℕ) : Type 0 where
  pub low : state ≤ 3
  pub open_is : eqb state 2 ≡ has_n
  pub scaled_has : eqb state 1 ≡ true → (has_s ≡ true) × (reached ≡ true)
  pub agreed_has_lem : eqb state 0 ≡ true → has_s ≡ false

impossible : {X : Type 0} → false ≡ true → X
impossible e = absurd (false≢true e)

pub stated : (n s x y : Bool) → Stated n s x (cond n 2 (cond s (cond x 1 3) (cond y 0 3)))
stated true s x y = record { low = lit≤ tt; open_is = refl; scaled_has = impossible; agreed_has_lem = impossible }
stated false true true y = record { low = lit≤ tt; open_is = refl; scaled_has = λ _. (refl, refl); agreed_has_lem = impossible }
stated false true false y = record { low = lit≤ tt; open_is = refl; scaled_has = impossible; agreed_has_lem = impossible }
stated false false x true = record { low = lit≤ tt; open_is = refl; scaled_has = impossible; agreed_has_lem = λ _. refl }
stated false false x false = record { low = lit≤ tt; open_is = refl; scaled_has = impossible; agreed_has_lem = λ _. refl }

-- a filled slot in a span that is scaled, if t, and v its new value there
abbrev scaled_to : Outcome → Bool → ℕ → Outcome
scaled_to o t v = cond (is_s o.quality && t) (record { value = v; quality = S; method = o.method + 16 }) o

new_marks : {o : Outcome} → Filled o → (t : Bool) (v : ℕ)
    → ((scaled_to o t v).quality ≡ o.quality) × (is_scaled (scaled_to o t v).method ≡ (is_s o.quality && t))
new_marks (delivered w) t v = (refl, refl)
new_marks (agreed w) t v = (refl, refl)
new_marks outage t v = (refl, refl)
new_marks (linear w) true v = (refl, refl)
new_marks (linear w) false v = (refl, refl)
new_marks (same_day w) true v = (refl, refl)
new_marks (same_day w) false v = (refl, refl)
new_marks nothing t v = (refl, refl)

new_value_lem : {o : Outcome} → Filled o → (v : ℕ) → (is_s o.quality ≡ false → v ≡ 0) → (scaled_to o true v).value ≡ actual_in o + v
new_value_lem (delivered w) v z = omega (arith, z refl)
new_value_lem (agreed w) v z = omega (arith, z refl)
new_value_lem outage v z = omega (arith, z refl)
new_value_lem (linear w) v z = omega arith
new_value_lem (same_day w) v z = omega arith
new_value_lem nothing v z = omega (arith, z refl)

module _ (h : Head) (b : Cells) (first last : ℕ) where
  state_is : Stated
      (any (λ i. is_n (filled h b first last i).quality) (start h b first last) (slots_in h b first last))
      (any (λ i. is_s (filled h b first last i).quality) (start h b first last) (slots_in h b first last))
      (leb (actual_sum h b first last) (R h b first last))
      (state_of h b first last)
  unfolding state_of state_by
  state_is = stated _ _ _ (is_near (range h b first last) (actual_sum h b first last) h.tolerance)

  pub state_low : state_of h b first last ≤ 3
  state_low = state_is.low

module _ (h : Head) (bounds : Bounded h) (b : Cells) (s : Span) (n : Neighbours h b s) where
  abbrev before : ℕ → Outcome
  before i = filled h b s.first s.last i

  abbrev new : ℕ → ℕ
  new i = new_value h b s.first s.last i

  abbrev scaled : Bool
  scaled = eqb (state_of h b s.first s.last) 1

  -- its first slot, and how many it has
  abbrev a : ℕ
  a = start h b s.first s.last

  abbrev k : ℕ
  k = slots_in h b s.first s.last

  here : (i : ℕ) → a ≤ i → i < a + k → outcome_at h b i ≡ scaled_to (before i) scaled (new i)
  unfolding start in_span
  here i l m = in_span_lem h bounds b s n i l (rw (← span_end h b s.first s.last (omega (arith, n.ordered))) m)

  form : (i : ℕ) → Filled (before i)
  form i = filled_form h b.slots b.agreed b.holidays i

  quality_same : (i : ℕ) → a ≤ i → i < a + k → (outcome_at h b i).quality ≡ (before i).quality
  quality_same i l m = ap (λ (o : Outcome). o.quality) (here i l m) ∙ (new_marks (form i) scaled (new i)).0

  method_is : (i : ℕ) → a ≤ i → i < a + k → is_scaled (outcome_at h b i).method ≡ (is_s (before i).quality && scaled)
  method_is i l m = ap (λ (o : Outcome). is_scaled o.method) (here i l m) ∙ (new_marks (form i) scaled (new i)).1

  state_same : s.state ≡ state_of h b s.first s.last
  unfolding span_of
  state_same = ap (λ (x : Span). x.state) n.figures

  lowest_same : s.lowest ≡ (range h b s.first s.last).lowest
  unfolding span_of
  lowest_same = ap (λ (x : Span). x.lowest) n.figures

  highest_same : s.highest ≡ (range h b s.first s.last).highest
  unfolding span_of
  highest_same = ap (λ (x : Span). x.highest) n.figures

  -- the ends of its advance
  pub range_ordered : s.lowest ≤ s.highest
  range_ordered = omega (arith, lowest_same, highest_same, ends_ordered h b s.first s.last)

  pub range_low : WidthsLow b.widths → s.highest ≤ 99_999_999
  range_low w = omega (arith, highest_same, highest_low h b s.first s.last w)

  -- state 2 exactly when it has an N
  pub open_exactly : eqb s.state 2 ≡ any (λ i. is_n (outcome_at h b i).quality) a k
  open_exactly = rw state_same ((state_is h b s.first s.last).open_is ∙ any_cong _ _ a k (λ i l m. ap is_n (sym (quality_same i l m))))

  -- in state 0 no S
  pub agreed_no_s : s.state ≡ 0 → any (λ i. is_s (outcome_at h b i).quality) a k ≡ false
  agreed_no_s z =
      any_cong _ _ a k (λ i l m. ap is_s (quality_same i l m))
      ∙ (state_is h b s.first s.last).agreed_has_lem (eq-eqb _ 0 (sym state_same ∙ z))

  -- state 1 exactly when it has a method 18 or 19
  pub scaled_exactly : eqb s.state 1 ≡ any (λ i. is_scaled (outcome_at h b i).method) a k
  scaled_exactly = rw state_same (go scaled refl ∙ sym (any_cong _ _ a k method_is))
    where
      go : (t : Bool) → scaled ≡ t → t ≡ any (λ i. is_s (before i).quality && t) a k
      go true t = sym (any_cong _ _ a k (λ i l m. and-true (is_s (before i).quality)) ∙ ((state_is h b s.first s.last).scaled_has t).0)
      go false t = sym (any_none _ a k (λ i l m. and-false (is_s (before i).quality)))

  module _ (one : s.state ≡ 1) where
    yes_scaled : scaled ≡ true
    yes_scaled = eq-eqb _ 1 (sym state_same ∙ one)

    has : (any (λ i. is_s (before i).quality) a k ≡ true) × (leb (actual_sum h b s.first s.last) (R h b s.first s.last) ≡ true)
    has = (state_is h b s.first s.last).scaled_has yes_scaled

    -- and then every S in it is such
    pub scaled_whole : any (λ i. is_s (outcome_at h b i).quality && not (is_scaled (outcome_at h b i).method)) a k ≡ false
    scaled_whole = any_none _ a k (λ i l m. rw (quality_same i l m, method_is i l m, yes_scaled) (both (is_s (before i).quality)))
      where
        both : (q : Bool) → (q && not (q && true)) ≡ false
        both true = refl
        both false = refl

    -- and its values sum to R
    pub scaled_sum : sum (λ i. (outcome_at h b i).value) a k ≡ R h b s.first s.last
    unfolding actual_sum
    scaled_sum =
        sum_cong _ _ a k value_is
        ∙ sum_plus (λ i. actual_in (before i)) new a k
        ∙ new_total h b s.first s.last has.0 (leb-true _ _ has.1)
      where
        value_is : (i : ℕ) → a ≤ i → i < a + k → (outcome_at h b i).value ≡ actual_in (before i) + new i
        value_is i l m =
            ap (λ (o : Outcome). o.value) (here i l m)
            ∙ (rw yes_scaled (new_value_lem (form i) (new i) (new_zero h b s.first s.last i l)))

    -- which lies between the ends of its advance
    pub scaled_within : (s.lowest ≤ sum (λ i. (outcome_at h b i).value) a k) × (sum (λ i. (outcome_at h b i).value) a k ≤ s.highest)
    scaled_within =
        let w = advance_within h b s.first s.last in
        (omega (arith, scaled_sum, lowest_same, w.0), omega (arith, scaled_sum, highest_same, w.1))
