-- The way of one slot through the book: what explaining it answers (01, Tests of a slot, Filling, Spans; 02, W1, W2, W3, W7 and W10).
use Rattle.std.specs.Prelude.{cond, not, ◌&&◌, List, [], ◌∷◌, ℕ, suc, ◌+◌, ◌-◌, ◌/◌, leb, eqb, get_or, length}
use Rattle.std.specs.Prelude.{Option as Coded, Some, None, Result}
use Rattle.std.proofs.Math.Option.{Option, none, some}
use Rattle.base.specs.declared.Refusal.{Refusal}
use Rattle.base.specs.declared.Refusal.TheVariants.{OutsideBounds, WrongLength, NoPlace, ImpossibleCell}
use Rattle.base.specs.Refusals.{Rule as Tested, answered}
use Rattle.base.specs.Refusals.Rule.{rule}
use Rattle.rules.specs.declared.Head.{Head}
use Rattle.rules.specs.declared.linear.StraightLine.{StraightLine}
use Rattle.rules.specs.Opening.{Slots, Agreed, Cells, head_ok, slots_per_day, slot_count}
use Rattle.rules.specs.Tests.{cause_at, good_at}
use Rattle.rules.specs.Filling.{is_outage_zero, is_agreed, run_before, run_start, run_length, is_linear, references, filled_at}
use Rattle.rules.specs.Spans.{is_s, last_read, next_read, range, actual_sum, R, state_of, T, E, P, C, outcome_at}
use Rattle.book.specs.Cells.{Book, book_fits, book_ok}
use Rattle.explain.specs.declared.Rule.{Rule}
use Rattle.explain.specs.declared.Rule.TheVariants.{Delivered, Agreed as Settled, OutageZero, Linear, SameDay, Nothing}
use Rattle.rules.specs.declared.filling.References.{References}
use Rattle.explain.specs.declared.Spanned.{Spanned}
use Rattle.explain.specs.declared.Shares.{Shares}
use Rattle.explain.specs.declared.Explanation.{Explanation}
use Rattle.rules.specs.References.{reference_days, in_four}

-- for a line l, r, j and g (02, W2)
unfoldable pub line_of : Head → Slots → List ℕ → ℕ → StraightLine
line_of h s agreed i = record {
  place = suc (run_before h s agreed i);
  length = run_length h s agreed i;
  left = get_or s.values (run_start h s agreed i - 1) 0;
  right = get_or s.values (run_start h s agreed i + run_length h s agreed i) 0;
}

-- for a same-day fill the days and values of the references and their number
unfoldable pub found_of : Head → Slots → List ℕ → ℕ → References
found_of h s holidays i = record {
  days = in_four (reference_days h s holidays i);
  values = in_four (references h s holidays i);
  count = length (references h s holidays i);
}

-- the rule that applied: a good slot is delivered; one with a cause has its agreed value, or else the first rule that applies
unfoldable pub rule_at : Head → Slots → Agreed → List ℕ → ℕ → Rule
rule_at h s a holidays i =
    cond (good_at h s i) Delivered
    (cond (is_agreed a.versions i) Settled
    (cond (is_outage_zero h s i) OutageZero
    (cond (is_linear h s a.versions i) (Linear (line_of h s a.versions i))
    (cond (eqb (length (references h s holidays i)) 0) Nothing (SameDay (found_of h s holidays i))))))

-- the span's boundaries, lowest, highest, R, V and state, where there is one
unfoldable pub spanned_by : Head → Cells → Option ℕ → Option ℕ → Coded Spanned
spanned_by h b (some first) (some last) = Some (record {
  first = first;
  last = last;
  lowest = (range h b first last).lowest;
  highest = (range h b first last).highest;
  advance = R h b first last;
  actual = actual_sum h b first last;
  state = state_of h b first last;
})
spanned_by h b (some first) none = None
spanned_by h b none last = None

-- T, E, P and C where slot i is scaled: it is S, in a span of state 1
unfoldable pub shares_by : Head → Cells → Option ℕ → Option ℕ → ℕ → Coded Shares
shares_by h b (some first) (some last) i =
    cond (is_s (filled_at h b.slots b.agreed b.holidays i).quality && eqb (state_of h b first last) 1)
    (Some (record { t = T h b first last; whole = E h b first last; passed = P h b first last i; reached = C h b first last i }))
    None
shares_by h b (some first) none i = None
shares_by h b none last i = None

-- the boundaries with a reading between which a day lies, if there are such
abbrev pub earlier : Cells → ℕ → Option ℕ
earlier b d = last_read b.read_versions d

abbrev pub later : Head → Cells → ℕ → Option ℕ
later h b d = next_read b.read_versions (d + 1) (h.days - d)

-- slot i: its cause, the rule that applied, the outcome before scaling, and so on up to its outcome
unfoldable pub explanation_of : Head → Cells → ℕ → Explanation
explanation_of h b i =
    let d = i / slots_per_day h in
    record {
      cause = cause_at h b.slots i;
      rule = rule_at h b.slots b.agreed b.holidays i;
      filled = filled_at h b.slots b.agreed b.holidays i;
      span = spanned_by h b (earlier b d) (later h b d);
      shares = shares_by h b (earlier b d) (later h b d) i;
      outcome = outcome_at h b i;
    }

-- refused as publishing is, and for a slot that is none
abbrev pub explain_rules : Head → Book → ℕ → List Tested
explain_rules h b slot =
    rule OutsideBounds (not (head_ok h)) ∷ rule WrongLength (not (book_fits h b)) ∷ rule NoPlace (leb (slot_count h) slot)
    ∷ rule ImpossibleCell (not (book_ok h b)) ∷ []

-- a refused call tells nothing
unfoldable pub explain_answer : Head → Book → ℕ → Result Explanation Refusal
explain_answer h b slot = answered (explain_rules h b slot) (explanation_of h b.cells slot)
