-- A span record, ranged or not, in its bytes: what is written is read, and what is read is written.
use mathlib.Core.Path.{◌≡◌, refl, sym, ap, ◌∙◌}
use mathlib.Core.Bool.{Bool, true, false, false≢true}
use mathlib.Core.List.{List, [], ◌∷◌}
use Prim.Native.Nat.{ℕ, ◌+◌, ◌*◌, ◌^◌, ◌≤◌, ◌<◌}
use native.Mathlib.Omega.{arith}
use lib.Dec.{lit<}
use lib.ListN.{length, take, drop}
use Rattle.rules.specs.declared.Span.{Span}
use Rattle.file.specs.declared.Figures.{Figures}
use Rattle.file.specs.Layout.{row, fields_of, ranged, span_widths, span_row, span_width}
use Rattle.file.specs.Reader.{num, field_at, read_span, file_slots}
use Rattle.file.specs.Contents.{Bytes, span_record, span_of_record}
use Rattle.file.specs.Inner.Reading.{Ready}
use Rattle.file.proofs.Rows.{widths, before, field, row_reads, field_take}
use Rattle.file.proofs.Fitting.{SpanFits}

pub span_wide : (r : Bool) (s : Span) → widths (span_row r s) ≡ span_width r
span_wide false s = refl
span_wide true s = refl

pub width_le : (r : Bool) → span_width r ≤ 14
width_le false = omega arith
width_le true = omega arith

-- record j of m lies within the table
pub record_within : (r : Bool) (j m : ℕ) → j < m → span_width r * j + span_width r ≤ span_width r * m
record_within false j m l = omega arith
record_within true j m l = omega arith

-- the bytes from p on have each field of the row that fits
abbrev pub Stands : Bool → Span → List ℕ → ℕ → Type 0
Stands r s bs p =
    (k : ℕ) → k < length (span_row r s) → (field (span_row r s) k).1 < 256 ^ (field (span_row r s) k).0
    → num (field (span_row r s) k).0 bs (p + before (span_row r s) k) ≡ (field (span_row r s) k).1

-- the record is read
pub span_read : (s : Span) (bs : List ℕ) (p : ℕ) (r : Bool) → SpanFits r s → Stands r s bs p → read_span r bs p ≡ span_record s
unfolding read_span
span_read s bs p false h stands =
    let first = stands 0 (lit< tt) h.first in
    let last = stands 1 (lit< tt) h.last in
    let lowest = stands 2 (lit< tt) h.lowest in
    let highest = lowest ∙ h.exact refl in
    let state = stands 3 (lit< tt) h.state in
    let blank = stands 4 (lit< tt) (lit< tt) in
    λ k. record { first = first k; last = last k; lowest = lowest k; highest = highest k; state = state k; blank = blank k }
span_read s bs p true h stands =
    let first = stands 0 (lit< tt) h.first in
    let last = stands 1 (lit< tt) h.last in
    let lowest = stands 2 (lit< tt) h.lowest in
    let highest = stands 3 (lit< tt) h.highest in
    let state = stands 4 (lit< tt) h.state in
    let blank = stands 5 (lit< tt) (lit< tt) in
    λ k. record { first = first k; last = last k; lowest = lowest k; highest = highest k; state = state k; blank = blank k }

module _ (bs : List ℕ) (p : ℕ) where
  -- a record that is not ranged has one advance
  pub from_exact : (r : Bool) → r ≡ false → (read_span r bs p).lowest ≡ (read_span r bs p).highest
  unfolding read_span
  from_exact false e = refl
  from_exact true e = absurd (false≢true (sym e))

  -- what is after it does not matter
  pub from_take : (t : ℕ) (r : Bool) → p + span_width r ≤ t → read_span r (take t bs) p ≡ read_span r bs p
  unfolding read_span
  from_take t false l =
      let same = field_take bs t (span_widths false) p l in
      λ k. record { first = same 0 k; last = same 1 k; lowest = same 2 k; highest = same 2 k; state = same 3 k; blank = same 4 k }
  from_take t true l =
      let same = field_take bs t (span_widths true) p l in
      λ k. record { first = same 0 k; last = same 1 k; lowest = same 2 k; highest = same 3 k; state = same 4 k; blank = same 5 k }

  -- the record is written again
  pub span_written : Bytes bs → (r : Bool) → p + span_width r ≤ length bs → (read_span r bs p).blank ≡ 0
      → row (span_row r (span_of_record (read_span r bs p))) ≡ take (span_width r) (drop p bs)
  unfolding read_span
  span_written b false l z =
      let f = field_at (span_widths false) bs p in
      ap (λ (x : ℕ). row (fields_of (span_widths false) (f 0 ∷ f 1 ∷ f 2 ∷ f 3 ∷ x ∷ []))) (sym z) ∙ row_reads bs b (span_widths false) p l
  span_written b true l z =
      let f = field_at (span_widths true) bs p in
      ap (λ (x : ℕ). row (fields_of (span_widths true) (f 0 ∷ f 1 ∷ f 2 ∷ f 3 ∷ f 4 ∷ x ∷ []))) (sym z) ∙ row_reads bs b (span_widths true)
      p l

-- record j of a file that is not refused with 8 lies in the file
pub record_in : (bs : List ℕ) (g : Figures) → Ready bs g → (r : Bool) → ranged g.layout ≡ r → (j : ℕ) → j < g.spans
    → 6 * file_slots g + span_width r * j + span_width r ≤ length bs
record_in bs g h r e j l =
    let long : length bs ≡ 6 * file_slots g + span_width r * g.spans + 32 = rw e at h.long in
    omega (arith, long, record_within r j g.spans l)
