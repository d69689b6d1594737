-- What is found of the span that a slot lies in, and of its scaling before the slot.
use Rattle.std.specs.Prelude.{cond, not, ◌&&◌, List, ℕ, ◌-◌, ◌*◌, ◌≤◌, ◌<◌, eqb, Option, Some, None}
use Rattle.rules.specs.declared.Head.{Head}
use Rattle.rules.specs.declared.Quality.{Quality}
use Rattle.rules.specs.declared.spans.Scaling.{Scaling}
use Rattle.rules.specs.declared.spans.Summary.{Summary}
use Rattle.rules.specs.Opening.{slots_per_day}
use Rattle.rules.specs.Spans.{is_s}
use Rattle.rules.specs.Inner.Summaries.{compared_with}
use Rattle.rules.specs.Inner.Stretches.{unscaled_to}
use Rattle.explain.specs.declared.Spanned.{Spanned}
use Rattle.explain.specs.declared.Shares.{Shares}

-- nothing is scaled
abbrev pub unscaled : Scaling
unscaled = (unscaled_to 0).by

-- a span with this state, the sums m and the advance r, where the slots before a slot have the sums `before`
unfoldable pub scaling_with : ℕ → Summary → Summary → ℕ → Scaling
scaling_with state m before r =
    cond (eqb state 1)
    (record {
      t = r - m.actual;
      whole = cond (eqb m.shapes 0) m.count m.shapes;
      extra = cond (eqb m.shapes 0) 1 0;
      passed = cond (eqb m.shapes 0) before.count before.shapes;
    })
    unscaled

-- the figures of a span with the sums m
unfoldable pub spanned_with : Head → List ℕ → List ℕ → ℕ → ℕ → Summary → Spanned
spanned_with h readings widths first last m =
    let found = compared_with h readings widths first last m in
    record {
      first = first;
      last = last;
      lowest = found.range.lowest;
      highest = found.range.highest;
      advance = found.advance;
      actual = m.actual;
      state = found.state;
    }

-- slot i lies between two boundaries
pub record Between (h : Head) (i first last : ℕ) : Type 0 where
  pub from : first * slots_per_day h ≤ i
  pub to : i < last * slots_per_day h
  pub ordered : first < last
  pub within : last ≤ h.days

-- the shares of a slot of this quality
unfoldable pub shares_with : Quality → Scaling → ℕ → Option Shares
shares_with q by reached =
    cond (is_s q && not (eqb by.whole 0))
    (Some (record { t = by.t; whole = by.whole; passed = by.passed; reached = reached }))
    None
