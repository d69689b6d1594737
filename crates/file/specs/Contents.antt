-- What the theorems on files say of a content: that it is well formed, and what two tables and figures hold.
use Rattle.std.specs.Prelude.{◌≡◌, true, false, cond, List, ℕ, ◌*◌, ◌/◌, ◌^◌, ◌<◌, eqb, length, get_or}
use Rattle.rules.specs.Numbers.{day_minutes}
use Rattle.base.specs.Lists.{every, up_to}
use Rattle.rules.specs.declared.Outcome.{Outcome}
use Rattle.rules.specs.declared.Quality.{Quality}
use Rattle.rules.specs.declared.Quality.TheVariants.{A, S, F, N}
use Rattle.rules.specs.declared.Span.{Span}
use Rattle.rules.specs.Spans.{is_f, no_outcome, no_span}
use Rattle.file.specs.declared.Figures.{Figures}
use Rattle.file.specs.declared.slots.SlotRecord.{SlotRecord}
use Rattle.file.specs.declared.spans.SpanRecord.{SpanRecord}
use Rattle.file.specs.Layout.{Content, letter, slot_width, total, one, ranged}
use Rattle.file.specs.Reader.{Tables, slot_at, span_at, file_slots, layout_ok, layout_fits, head_field_tests, table_tests}

-- every element is a byte
abbrev pub Bytes : List ℕ → Type 0
Bytes bs = (i : ℕ) → get_or bs i 0 < 256

-- slot i and span j of a content
abbrev pub slot : Content → ℕ → Outcome
slot f i = get_or f.slots i no_outcome

abbrev pub span : Content → ℕ → Span
span f j = get_or f.spans j no_span

-- ---- Well-formed contents

-- the records of an outcome and of a span
abbrev pub slot_record : Outcome → SlotRecord
slot_record o = record { value = o.value; letter = letter o.quality; method = o.method }

abbrev pub span_record : Span → SpanRecord
span_record s = record { first = s.first; last = s.last; lowest = s.lowest; highest = s.highest; state = s.state; blank = 0 }

abbrev pub records_of : Content → Tables
records_of f = record {
  per_day = day_minutes / f.interval;
  days = f.days;
  spans = length f.spans;
  slot = λ i. slot_record (slot f i);
  span = λ j. span_record (span f j);
}

-- first day, D and L as under Opening, N slots, and what the reader asks of the records and spans;
-- a layout that goes with its F slots, and in layouts 1 and 2 spans of one advance R
pub record WellFormed (f : Content) : Type 0 where
  pub head : every (head_field_tests f.first f.days f.interval) ≡ true
  pub slots : length f.slots ≡ day_minutes / f.interval * f.days
  pub values : (i : ℕ) → i < length f.slots → (slot f i).value < 2 ^ 32
  pub tables : every (table_tests (records_of f)) ≡ true
  pub known : layout_ok f.layout ≡ true
  pub fits : layout_fits f.layout (total (one is_f) f.slots) ≡ true
  pub exact : ranged f.layout ≡ false → (j : ℕ) → j < length f.spans → (span f j).lowest ≡ (span f j).highest

-- ---- What figures and tables hold

abbrev pub quality_of : ℕ → Quality
quality_of l = cond (eqb l (letter A)) A (cond (eqb l (letter S)) S (cond (eqb l (letter F)) F N))

abbrev pub outcome_of : SlotRecord → Outcome
outcome_of r = record { value = r.value; quality = quality_of r.letter; method = r.method }

abbrev pub span_of_record : SpanRecord → Span
span_of_record r = record { first = r.first; last = r.last; lowest = r.lowest; highest = r.highest; state = r.state }

-- the content of these figures and of these bytes of the two tables
unfoldable pub content_of : Figures → List ℕ → Content
content_of g bs = record {
  layout = g.layout;
  first = g.first;
  days = g.days;
  interval = g.interval;
  slots = up_to (λ i. outcome_of (slot_at bs i)) 0 (file_slots g);
  spans = up_to (λ j. span_of_record (span_at (ranged g.layout) bs (slot_width * file_slots g) j)) 0 g.spans;
}
