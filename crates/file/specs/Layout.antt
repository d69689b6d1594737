-- The bytes of a published file (01, The published file).
use Rattle.std.specs.Prelude.{Bool, true, false, cond, List, [], ◌∷◌, ◌++◌, ℕ, zero, suc, ◌+◌, ◌*◌, ◌/◌, ◌%◌, eqb, length}
use Rattle.rules.specs.declared.Outcome.{Outcome}
use Rattle.rules.specs.declared.Quality.{Quality}
use Rattle.rules.specs.declared.Quality.TheVariants.{A, S, F, N}
use Rattle.rules.specs.declared.Span.{Span}
use Rattle.rules.specs.Spans.{is_a, is_s, is_f, is_n}
use Rattle.file.specs.declared.Figures.{Figures}

-- k bytes of n, low byte first
unfoldable pub bytes : ℕ → ℕ → List ℕ
bytes zero n = []
bytes (suc k) n = n % 256 ∷ bytes k (n / 256)

-- a row of fields, each its width in bytes and its number
unfoldable pub row : List (ℕ × ℕ) → List ℕ
row [] = []
row (f ∷ fs) = bytes f.0 f.1 ++ row fs

-- the fields of these widths with these numbers, and how wide their row is
abbrev pub fields_of : List ℕ → List ℕ → List (ℕ × ℕ)
fields_of [] ns = []
fields_of (w ∷ ws) [] = []
fields_of (w ∷ ws) (n ∷ ns) = (w, n) ∷ fields_of ws ns

abbrev pub row_width : List ℕ → ℕ
row_width [] = 0
row_width (w ∷ ws) = w + row_width ws

-- a row for each element of a list
unfoldable pub table : {X : Type 0} → (X → List (ℕ × ℕ)) → List X → List ℕ
table r [] = []
table r (x ∷ xs) = row (r x) ++ table r xs

-- the quality letter as ASCII
abbrev pub letter : Quality → ℕ
letter A = 65
letter S = 83
letter F = 70
letter N = 78

-- value (4), quality letter (1), method (1)
abbrev pub slot_widths : List ℕ
slot_widths = 4 ∷ 1 ∷ 1 ∷ []

abbrev pub slot_width : ℕ
slot_width = row_width slot_widths

abbrev pub slot_row : Outcome → List (ℕ × ℕ)
slot_row o = fields_of slot_widths (o.value ∷ letter o.quality ∷ o.method ∷ [])

-- the span records of layout 3 hold lowest and highest advance in place of R (02, W10)
abbrev pub ranged : ℕ → Bool
ranged layout = eqb layout 3

-- first boundary (2), last boundary (2), R (4), state (1), zero (1); where it is ranged, lowest and highest advance (4 each) in place of R
abbrev pub span_widths : Bool → List ℕ
span_widths false = 2 ∷ 2 ∷ 4 ∷ 1 ∷ 1 ∷ []
span_widths true = 2 ∷ 2 ∷ 4 ∷ 4 ∷ 1 ∷ 1 ∷ []

abbrev pub span_width : Bool → ℕ
span_width r = row_width (span_widths r)

abbrev pub span_row : Bool → Span → List (ℕ × ℕ)
span_row false s = fields_of (span_widths false) (s.first ∷ s.last ∷ s.lowest ∷ s.state ∷ 0 ∷ [])
span_row true s = fields_of (span_widths true) (s.first ∷ s.last ∷ s.lowest ∷ s.highest ∷ s.state ∷ 0 ∷ [])

-- the bytes of the span table: 10 × M or, in layout 3, 14 × M
abbrev pub span_table_bytes : Figures → ℕ
span_table_bytes g = span_width (ranged g.layout) * g.spans

-- first day number (2), D (2), L (1), layout (1), M (2), counts of A, of S and F, and of N slots (4 each), sum of all slot values (8),
-- distance back to the span table (4)
abbrev pub trailer_widths : List ℕ
trailer_widths = 2 ∷ 2 ∷ 1 ∷ 1 ∷ 2 ∷ 4 ∷ 4 ∷ 4 ∷ 8 ∷ 4 ∷ []

abbrev pub trailer_width : ℕ
trailer_width = row_width trailer_widths

abbrev pub trailer_row : Figures → List (ℕ × ℕ)
trailer_row g =
    fields_of trailer_widths (
    g.first ∷ g.days ∷ g.interval ∷ g.layout ∷ g.spans
    ∷ g.actual ∷ g.substituted ∷ g.none ∷ g.sum ∷ span_table_bytes g ∷ []
    )

-- what a file holds: its layout, the first day's number, D, L, a slot's outcome and a span's for each in order
pub record Content : Type 0 where
  pub layout : ℕ
  pub first : ℕ
  pub days : ℕ
  pub interval : ℕ
  pub slots : List Outcome
  pub spans : List Span

-- the sum of a figure of each outcome
unfoldable pub total : (Outcome → ℕ) → List Outcome → ℕ
total g [] = 0
total g (o ∷ os) = g o + total g os

-- 1 for an outcome whose quality passes
abbrev pub one : (Quality → Bool) → Outcome → ℕ
one q o = cond (q o.quality) 1 0

-- what the trailer says of a content; F counts with S (02, W1)
unfoldable pub figures_of : Content → Figures
figures_of f = record {
  first = f.first;
  days = f.days;
  interval = f.interval;
  spans = length f.spans;
  actual = total (one is_a) f.slots;
  substituted = total (one is_s) f.slots + total (one is_f) f.slots;
  none = total (one is_n) f.slots;
  sum = total (λ o. o.value) f.slots;
  layout = f.layout;
}

-- the slot table and the span table
unfoldable pub tables_of : Content → List ℕ
tables_of f = table slot_row f.slots ++ table (span_row (ranged f.layout)) f.spans

unfoldable pub file_of : Content → List ℕ
file_of f = tables_of f ++ row (trailer_row (figures_of f))
