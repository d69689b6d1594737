-- What the reader answers (01, The published file: 'It accepts exactly'; Numbers of a refusal, 8 and 9).
use Rattle.std.specs.Prelude.{Result, Ok, Err}
use Rattle.std.specs.Prelude.{Bool, true, false, not, ◌&&◌, ◌||◌, List, [], ◌∷◌, ℕ, zero, suc, ◌+◌, ◌-◌, ◌*◌, ◌/◌, leb, ltb, eqb}
use Rattle.std.specs.Prelude.{length, get_or, take}
use Rattle.base.specs.declared.Refusal.{Refusal}
use Rattle.base.specs.declared.Refusal.TheVariants.{WrongFrame, WrongContent}
use Rattle.base.specs.Numbers.{eight_digits}
use Rattle.calendar.specs.Calendar.{day_count}
use Rattle.rules.specs.Numbers.{day_minutes, most_days}
use Rattle.base.specs.Lists.{sum, any, every, all, count, one_of, same, implies}
use Rattle.rules.specs.declared.Quality.{Quality}
use Rattle.rules.specs.declared.Quality.TheVariants.{A, S, F, N}
use Rattle.rules.specs.Opening.{interval_ok}
use Rattle.rules.specs.Spans.{is_scaled}
use Rattle.file.specs.declared.Figures.{Figures}
use Rattle.file.specs.declared.slots.SlotRecord.{SlotRecord}
use Rattle.file.specs.declared.spans.SpanRecord.{SpanRecord}
use Rattle.file.specs.Layout.{letter, ranged, row_width, slot_widths, slot_width, span_widths, span_width}
use Rattle.file.specs.Layout.{trailer_widths, trailer_width, span_table_bytes}

-- ---- What stands in the bytes

-- the number in the k bytes from place at, low byte first
unfoldable pub num : ℕ → List ℕ → ℕ → ℕ
num zero bs at = 0
num (suc k) bs at = get_or bs at 0 + 256 * num k bs (suc at)

-- field k of a row of these widths from place at
abbrev pub field_at : List ℕ → List ℕ → ℕ → ℕ → ℕ
field_at ws bs at k = num (get_or ws k 0) bs (at + row_width (take k ws))

-- record i of the slot table, from byte 0
unfoldable pub slot_at : List ℕ → ℕ → SlotRecord
slot_at bs i =
    let field = field_at slot_widths bs (slot_width * i) in
    record { value = field 0; letter = field 1; method = field 2 }

-- the span record from place p; one that is not ranged has R as lowest and highest advance
unfoldable pub read_span : Bool → List ℕ → ℕ → SpanRecord
read_span false bs p =
    let field = field_at (span_widths false) bs p in
    record { first = field 0; last = field 1; lowest = field 2; highest = field 2; state = field 3; blank = field 4 }
read_span true bs p =
    let field = field_at (span_widths true) bs p in
    record { first = field 0; last = field 1; lowest = field 2; highest = field 3; state = field 4; blank = field 5 }

-- record j of a span table from byte b
abbrev pub span_at : Bool → List ℕ → ℕ → ℕ → SpanRecord
span_at r bs b j = read_span r bs (b + span_width r * j)

-- the trailer is the last 32 bytes
abbrev pub trailer_at : List ℕ → ℕ
trailer_at bs = length bs - trailer_width

abbrev pub trailer_field : List ℕ → ℕ → ℕ
trailer_field bs = field_at trailer_widths bs (trailer_at bs)

unfoldable pub figures : List ℕ → Figures
figures bs =
    let field = trailer_field bs in
    record {
      first = field 0;
      days = field 1;
      interval = field 2;
      layout = field 3;
      spans = field 4;
      actual = field 5;
      substituted = field 6;
      none = field 7;
      sum = field 8;
    }

abbrev pub distance : List ℕ → ℕ
distance bs = trailer_field bs 9

-- ---- 8: length, distance or a trailer's head field or layout wrong

-- N = n × D
abbrev pub file_slots : Figures → ℕ
file_slots g = day_minutes / g.interval * g.days

-- first day, D and L as under Opening; 2099-12-31 is day 36,524
abbrev pub head_field_tests : ℕ → ℕ → ℕ → List Bool
head_field_tests first days interval =
    interval_ok interval
    ∷ leb 1 days
    ∷ leb days most_days
    ∷ leb (first + days) day_count
    ∷ []

-- the reader knows layouts 1 and 2 (02, W1) and 3 (02, W10)
unfoldable pub layout_ok : ℕ → Bool
layout_ok layout = eqb layout 1 || (eqb layout 2 || eqb layout 3)

abbrev pub trailer_tests : List ℕ → Figures → List Bool
trailer_tests bs g =
    leb (trailer_width) (length bs)
    ∷ every (head_field_tests g.first g.days g.interval)
    ∷ layout_ok g.layout
    ∷ eqb (distance bs) (span_table_bytes g)
    ∷ eqb (length bs) (slot_width * file_slots g + span_table_bytes g + trailer_width)
    ∷ []

-- ---- 9: anything else broken

-- n, D and M, and the records of both tables
pub record Tables : Type 0 where
  pub per_day : ℕ
  pub days : ℕ
  pub spans : ℕ
  pub slot : ℕ → SlotRecord
  pub span : ℕ → SpanRecord

abbrev pub of_quality : Quality → SlotRecord → Bool
of_quality q r = eqb r.letter (letter q)

abbrev pub is_form : Quality → ℕ → SlotRecord → Bool
is_form q method r = of_quality q r && eqb r.method method

-- (A,0), (S,2), (S,3), (S,18), (S,19) with any value, or (A,1), (N,0) with value 0, or (F,5) with a value up to 99,999,999
abbrev pub forms : SlotRecord → List Bool
forms r =
    is_form A 0 r ∷ is_form S 2 r ∷ is_form S 3 r ∷ is_form S 18 r ∷ is_form S 19 r
    ∷ (is_form A 1 r && eqb r.value 0) ∷ (is_form N 0 r && eqb r.value 0)
    ∷ (is_form F 5 r && leb r.value eight_digits) ∷ []

unfoldable pub record_ok : SlotRecord → Bool
record_ok r = one_of (forms r)

-- method 18 or 19
abbrev pub scaled : SlotRecord → Bool
scaled r = is_scaled r.method

-- S, and no such method
abbrev pub unscaled : SlotRecord → Bool
unscaled r = of_quality S r && not (scaled r)

-- the sum lies between lowest and highest
abbrev pub in_range : ℕ → ℕ → ℕ → Bool
in_range lowest sum highest = leb lowest sum && leb sum highest

-- state 2 exactly when it has an N; 1 exactly when it has a method 18 or 19, and then every S in it is such and its sum lies between
-- lowest and highest, in layouts 1 and 2 both R; in state 0 no S
abbrev pub state_rule : ℕ → Bool → Bool → Bool → Bool → Bool → List Bool
state_rule state has_n has_scaled has_unscaled has_s sum_in_range =
    same (eqb state 2) has_n
    ∷ same (eqb state 1) has_scaled
    ∷ implies (eqb state 1) (not has_unscaled)
    ∷ implies (eqb state 1) sum_in_range
    ∷ implies (eqb state 0) (not has_s)
    ∷ []

-- layout 2 has an F and layout 1 has none (02, W1); layout 3 is with or without one (02, W10)
unfoldable pub layout_fits : ℕ → ℕ → Bool
layout_fits layout agreed = ranged layout || same (eqb layout 2) (ltb 0 agreed)

module _ (t : Tables) where
  -- first < last ≤ D, each beginning where the one before ended, lowest ≤ highest ≤ 99,999,999, state 0 to 3, last byte zero
  abbrev pub span_tests : ℕ → List Bool
  span_tests j =
      ltb (t.span j).first (t.span j).last
      ∷ leb (t.span j).last t.days
      ∷ implies (ltb 0 j) (eqb (t.span j).first (t.span (j - 1)).last)
      ∷ leb (t.span j).lowest (t.span j).highest
      ∷ leb (t.span j).highest eight_digits
      ∷ leb (t.span j).state 3
      ∷ eqb (t.span j).blank 0
      ∷ []

  unfoldable pub span_ok : ℕ → Bool
  span_ok j = every (span_tests j)

  -- the first slot of span j, and how many it has
  abbrev pub start_of : ℕ → ℕ
  start_of j = (t.span j).first * t.per_day

  abbrev pub slots_of : ℕ → ℕ
  slots_of j = ((t.span j).last - (t.span j).first) * t.per_day

  -- span j has such a slot
  abbrev pub has : (SlotRecord → Bool) → ℕ → Bool
  has p j = any (λ i. p (t.slot i)) (start_of j) (slots_of j)

  abbrev pub state_tests : ℕ → List Bool
  state_tests j =
      state_rule (t.span j).state (has (of_quality N) j) (has scaled j) (has unscaled j) (has (of_quality S) j)
      (in_range (t.span j).lowest (sum (λ i. (t.slot i).value) (start_of j) (slots_of j)) (t.span j).highest)

  unfoldable pub state_ok : ℕ → Bool
  state_ok j = every (state_tests j)

  -- slot i lies in span j
  abbrev pub lies_in : ℕ → ℕ → Bool
  lies_in i j = leb ((t.span j).first * t.per_day) i && ltb i ((t.span j).last * t.per_day)

  -- no 18 or 19 outside spans
  unfoldable pub outside_ok : ℕ → Bool
  outside_ok i = implies (scaled (t.slot i)) (any (lies_in i) 0 t.spans)

  abbrev pub table_tests : List Bool
  table_tests =
      all (λ i. record_ok (t.slot i)) 0 (t.per_day * t.days)
      ∷ all span_ok 0 t.spans
      ∷ all state_ok 0 t.spans
      ∷ all outside_ok 0 (t.per_day * t.days)
      ∷ []

  -- how many slots are of a quality
  abbrev pub count_of : Quality → ℕ
  count_of q = count (λ i. of_quality q (t.slot i)) 0 (t.per_day * t.days)

  -- right counts, F with S; a layout that goes with its F slots; right sum
  abbrev pub figure_tests : Figures → List Bool
  figure_tests g =
      eqb (count_of A) g.actual
      ∷ eqb (count_of S + count_of F) g.substituted
      ∷ eqb (count_of N) g.none
      ∷ layout_fits g.layout (count_of F)
      ∷ eqb (sum (λ i. (t.slot i).value) 0 (t.per_day * t.days)) g.sum
      ∷ []

-- ---- The answer

abbrev pub tables_at : List ℕ → Figures → Tables
tables_at bs g = record {
  per_day = day_minutes / g.interval;
  days = g.days;
  spans = g.spans;
  slot = slot_at bs;
  span = span_at (ranged g.layout) bs (slot_width * file_slots g);
}

unfoldable pub trailer_ok : List ℕ → Figures → Bool
trailer_ok bs g = every (trailer_tests bs g)

unfoldable pub tables_ok : List ℕ → Figures → Bool
tables_ok bs g = every (table_tests (tables_at bs g))

unfoldable pub figures_ok : List ℕ → Figures → Bool
figures_ok bs g = every (figure_tests (tables_at bs g) g)

-- each case of the answer: refused with 8, refused with 9, accepted with the trailer's figures
abbrev pub verdict : Bool → Bool → Figures → Result Figures Refusal
verdict false rest g = Err WrongFrame
verdict true false g = Err WrongContent
verdict true true g = Ok g

unfoldable pub read_file : List ℕ → Result Figures Refusal
read_file bs =
    let g = figures bs in
    verdict (trailer_ok bs g) (tables_ok bs g && figures_ok bs g) g

-- the two tables as one part of the file, and of a refused file the empty part
abbrev pub part_of : Result Figures Refusal → List ℕ → List ℕ
part_of (Ok g) bs = take (trailer_at bs) bs
part_of (Err r) bs = []

unfoldable pub tables_part : List ℕ → List ℕ
tables_part bs = part_of (read_file bs) bs
