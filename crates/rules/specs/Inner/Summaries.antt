-- What one scan of a span's slots finds, and the scaling that follows from it.
use Rattle.std.specs.Prelude.{cond, ◌||◌, List, ℕ, ◌+◌, ◌-◌, ◌≤◌, ◌<◌, eqb, get_or}
use Rattle.base.specs.Lists.{sum, any}
use Rattle.base.specs.Numbers.{dial_modulus}
use Rattle.rules.specs.declared.Head.{Head}
use Rattle.rules.specs.declared.Outcome.{Outcome}
use Rattle.rules.specs.declared.spans.Summary.{Summary}
use Rattle.rules.specs.declared.spans.Compared.{Compared}
use Rattle.rules.specs.declared.spans.Scaling.{Scaling}
use Rattle.rules.specs.declared.spans.Scaled.{Scaled}
use Rattle.rules.specs.Opening.{Slots, Agreed}
use Rattle.rules.specs.Filling.{filled_at, shape_at}
use Rattle.rules.specs.Spans.{is_s, is_n, actual_in, advance, range_of, least_in, state_by, share}

-- 1 for an S slot, and its shape
abbrev pub one_in : Outcome → ℕ
one_in o = cond (is_s o.quality) 1 0

abbrev pub shape_in : Outcome → ℕ → ℕ
shape_in o shape = cond (is_s o.quality) shape 0

-- k slots from slot a
unfoldable pub summary_of : Head → Slots → Agreed → List ℕ → ℕ → ℕ → Summary
summary_of h s agreed holidays a k = record {
  actual = sum (λ i. actual_in (filled_at h s agreed holidays i)) a k;
  shapes = sum (shape_at h s agreed holidays) a k;
  count = sum (λ i. one_in (filled_at h s agreed holidays i)) a k;
  hole = any (λ i. is_n (filled_at h s agreed holidays i).quality) a k;
  filled = any (λ i. is_s (filled_at h s agreed holidays i).quality) a k;
}

-- one A or F slot more, with this value
abbrev pub actual_added : Summary → ℕ → Summary
actual_added m value = record {
  actual = m.actual + value;
  shapes = m.shapes;
  count = m.count;
  hole = m.hole;
  filled = m.filled;
}

-- one slot more, with this shape
unfoldable pub added_to : Summary → Outcome → ℕ → Summary
added_to m o shape = record {
  actual = m.actual + actual_in o;
  shapes = m.shapes + shape_in o shape;
  count = m.count + one_in o;
  hole = m.hole || is_n o.quality;
  filled = m.filled || is_s o.quality;
}

-- where the advance of the span between two boundaries lies, R and the state, with the sums m
unfoldable pub compared_with : Head → List ℕ → List ℕ → ℕ → ℕ → Summary → Compared
compared_with h readings widths first last m =
    let range = range_of (advance (get_or readings first 0) (get_or readings last 0)) (get_or widths first 0) (get_or widths last 0) in
    let r = least_in range m.actual in
    record { range = range; advance = r; state = state_by m.hole m.filled range r m.actual h.tolerance }

-- T, E and a P of 0 where the advance is r
unfoldable pub scaling_of : Summary → ℕ → Scaling
scaling_of m r = record {
  t = r - m.actual;
  whole = cond (eqb m.shapes 0) m.count m.shapes;
  extra = cond (eqb m.shapes 0) 1 0;
  passed = 0;
}

-- an S slot with this shape
unfoldable pub scaled_by : ℕ → Scaling → Scaled
scaled_by shape by =
    let c = by.passed + (shape + by.extra) in
    record {
      value = share by.t c by.whole - share by.t by.passed by.whole;
      next = record { t = by.t; whole = by.whole; extra = by.extra; passed = c };
    }

-- an S slot with this shape can be scaled without a wrap
pub record Scales (shape : ℕ) (by : Scaling) : Type 0 where
  pub t_low : by.t < dial_modulus
  pub room : by.passed + (shape + by.extra) ≤ by.whole
  pub whole_high : by.whole ≤ 115_200_000_000
  pub whole_low : 0 < by.whole
