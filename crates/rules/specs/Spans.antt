-- Spans, scaling to the dial, and outcomes (01, Spans; 02, W7 and W10).
use Rattle.std.specs.Prelude.{Bool, true, false, cond, not, ◌&&◌, ◌||◌, List, [], ◌∷◌, ◌++◌, ℕ, zero, suc, ◌+◌, ◌-◌, ◌*◌, ◌/◌, ◌%◌, leb}
use Rattle.std.specs.Prelude.{eqb, get_or}
use Rattle.std.proofs.Math.Option.{Option, none, some}
use Rattle.base.specs.Lists.{sum, any, up_to}
use Rattle.base.specs.Numbers.{dial_modulus}
use Rattle.rules.specs.declared.Head.{Head}
use Rattle.rules.specs.declared.Outcome.{Outcome}
use Rattle.rules.specs.declared.Quality.{Quality}
use Rattle.rules.specs.declared.Quality.TheVariants.{A, S, F, N}
use Rattle.rules.specs.declared.Span.{Span}
use Rattle.rules.specs.declared.range.Range.{Range}
use Rattle.rules.specs.Opening.{Cells, slots_per_day, slot_count}
use Rattle.rules.specs.Filling.{filled_at, shape_at}

abbrev pub is_a : Quality → Bool
is_a A = true
is_a S = false
is_a F = false
is_a N = false

abbrev pub is_s : Quality → Bool
is_s A = false
is_s S = true
is_s F = false
is_s N = false

abbrev pub is_f : Quality → Bool
is_f A = false
is_f S = false
is_f F = true
is_f N = false

abbrev pub is_n : Quality → Bool
is_n A = false
is_n S = false
is_n F = false
is_n N = true

-- the value of an A or F slot
abbrev pub actual_in : Outcome → ℕ
actual_in o = cond (is_a o.quality || is_f o.quality) o.value 0

-- the method of a scaled slot, 2 or 3 plus 16
abbrev pub is_scaled : ℕ → Bool
is_scaled method = eqb method 18 || eqb method 19

-- a boundary whose register version isn't 0
unfoldable pub is_read : List ℕ → ℕ → Bool
is_read read_versions d = not (eqb (get_or read_versions d 0) 0)

-- the last such boundary up to d
unfoldable pub last_read : List ℕ → ℕ → Option ℕ
last_read read_versions zero = cond (is_read read_versions zero) (some zero) none
last_read read_versions (suc d) = cond (is_read read_versions (suc d)) (some (suc d)) (last_read read_versions d)

-- the first such boundary among the k from d
unfoldable pub next_read : List ℕ → ℕ → ℕ → Option ℕ
next_read read_versions d zero = none
next_read read_versions d (suc k) = cond (is_read read_versions d) (some d) (next_read read_versions (suc d) k)

-- (later reading − earlier reading) mod 100,000,000, for readings of an eight-digit dial
unfoldable pub advance : ℕ → ℕ → ℕ
advance earlier later = (later + dial_modulus - earlier) % dial_modulus

-- with G the advance of two readings, u the earlier one's width and v the later one's, the advance lies from the larger of 0 and
-- G − u to G + v, or, where G + v is 100,000,000 or more, from 0 to G + v − 100,000,000 (02, W10)
unfoldable pub range_of : ℕ → ℕ → ℕ → Range
range_of g u v =
    cond (leb dial_modulus (g + v))
    (record { lowest = 0; highest = g + v - dial_modulus })
    (record { lowest = g - u; highest = g + v })

-- the least advance in the range that is at least v; if there is none, the highest (02, W10)
unfoldable pub least_in : Range → ℕ → ℕ
least_in range v =
    cond (leb v range.lowest) range.lowest (cond (leb v range.highest) v range.highest)

-- some advance in the range is within t of v: v is at most t below the lowest and at most t above the highest (02, W10)
unfoldable pub is_near : Range → ℕ → ℕ → Bool
is_near range v t = leb (range.lowest - v) t && leb (v - range.highest) t

-- 2 (open) if a slot is N; else, if a slot is S, 1 (scaled) when R ≥ V and 3 (disagrees) when R < V; else 0 when some advance in
-- the range is within t of V and 3 otherwise
unfoldable pub state_by : Bool → Bool → Range → ℕ → ℕ → ℕ → ℕ
state_by has_n has_s range r v t = cond has_n 2 (cond has_s (cond (leb v r) 1 3) (cond (is_near range v t) 0 3))

-- floor(T × C / E)
unfoldable pub share : ℕ → ℕ → ℕ → ℕ
share t c e = t * c / e

-- the span between the boundaries first and last
module _ (h : Head) (b : Cells) (first last : ℕ) where
  -- its slots, before scaling
  abbrev pub filled : ℕ → Outcome
  filled i = filled_at h b.slots b.agreed b.holidays i

  -- and their shapes
  abbrev pub shape : ℕ → ℕ
  shape i = shape_at h b.slots b.agreed b.holidays i

  unfoldable pub start : ℕ
  start = first * slots_per_day h

  unfoldable pub slots_in : ℕ
  slots_in = (last - first) * slots_per_day h

  -- the advance of its two readings
  unfoldable pub G : ℕ
  G = advance (get_or b.readings first 0) (get_or b.readings last 0)

  -- where its advance lies, by their widths
  unfoldable pub range : Range
  range = range_of G (get_or b.widths first 0) (get_or b.widths last 0)

  -- V, the sum of its A and F slots
  unfoldable pub actual_sum : ℕ
  actual_sum = sum (λ i. actual_in (filled i)) start slots_in

  unfoldable pub R : ℕ
  R = least_in range actual_sum

  unfoldable pub state_of : ℕ
  state_of =
      state_by (any (λ i. is_n (filled i).quality) start slots_in) (any (λ i. is_s (filled i).quality) start slots_in)
      range R actual_sum h.tolerance

  unfoldable pub T : ℕ
  T = R - actual_sum

  -- the shapes are all 0
  unfoldable pub all_zero : Bool
  all_zero = eqb (sum shape start slots_in) 0

  -- e of slot i, its shape, which counts as 1 when all are 0; a slot that is not S has none (02, W7)
  unfoldable pub e : ℕ → ℕ
  e i = cond (is_s (filled i).quality) (cond all_zero 1 (shape i)) 0

  unfoldable pub E : ℕ
  E = sum e start slots_in

  -- the running sum of e up to and with slot i, and the sum before it
  unfoldable pub C : ℕ → ℕ
  C i = sum e start (i + 1 - start)

  unfoldable pub P : ℕ → ℕ
  P i = sum e start (i - start)

  unfoldable pub new_value : ℕ → ℕ
  new_value i = share T (C i) E - share T (P i) E

  -- the outcome of slot i of this span
  unfoldable pub in_span : ℕ → Outcome
  in_span i =
      cond (is_s (filled i).quality && eqb state_of 1)
      (record { value = new_value i; quality = S; method = (filled i).method + 16 })
      (filled i)

  -- a span's outcome is its two boundaries, its lowest and highest advance, and state
  unfoldable pub span_of : Span
  span_of = record { first = first; last = last; lowest = range.lowest; highest = range.highest; state = state_of }

-- past the last slot of a list
abbrev pub no_outcome : Outcome
no_outcome = record { value = 0; quality = N; method = 0 }

-- past the last span of a list
abbrev pub no_span : Span
no_span = record { first = 0; last = 0; lowest = 0; highest = 0; state = 0 }

-- a slot before the first or after the last boundary with a reading lies in no span
unfoldable pub between : Head → Cells → Option ℕ → Option ℕ → ℕ → Outcome
between h b (some first) (some last) i = in_span h b first last i
between h b (some first) none i = filled_at h b.slots b.agreed b.holidays i
between h b none last i = filled_at h b.slots b.agreed b.holidays i

-- a slot's outcome
unfoldable pub outcome_at : Head → Cells → ℕ → Outcome
outcome_at h b i =
    let d = i / slots_per_day h in
    between h b (last_read b.read_versions d) (next_read b.read_versions (d + 1) (h.days - d)) i

unfoldable pub outcomes : Head → Cells → List Outcome
outcomes h b = up_to (outcome_at h b) 0 (slot_count h)

-- the span from boundary d to the next, if there is one
unfoldable pub span_to : Head → Cells → ℕ → Option ℕ → List Span
span_to h b d none = []
span_to h b d (some last) = span_of h b d last ∷ []

unfoldable pub span_from : Head → Cells → ℕ → List Span
span_from h b d =
    cond (is_read b.read_versions d) (span_to h b d (next_read b.read_versions (d + 1) (h.days - d))) []

-- the spans that begin at one of the k boundaries from d
unfoldable pub spans_from : Head → Cells → ℕ → ℕ → List Span
spans_from h b d zero = []
spans_from h b d (suc k) = span_from h b d ++ spans_from h b (suc d) k

-- the spans in order
unfoldable pub spans : Head → Cells → List Span
spans h b = spans_from h b 0 h.days
