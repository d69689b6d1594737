-- A content whose numbers fit is read back from its file, so a file has one content only.
use mathlib.Core.Path.{◌≡◌, refl, sym, ap, ◌∙◌}
use mathlib.Core.Bool.{Bool}
use mathlib.Core.List.{List, [], ◌++◌, append_assoc, append-nil}
use Prim.Native.Nat.{ℕ, ◌+◌, ◌*◌, ◌^◌, ◌<◌}
use native.Mathlib.Nat.{zero-add, mul-le-mul_right}
use native.Mathlib.Omega.{arith}
use lib.Dec.{lit<}
use lib.ListN.{length, length-append}
use Rattle.base.specs.Lists.{up_to}
use Rattle.base.proofs.Lists.{up_to_list}
use Rattle.rules.specs.Spans.{no_outcome, no_span}
use Rattle.file.specs.Layout.{Content, row, table, slot_row, ranged, span_row, span_width, trailer_row, figures_of, tables_of, file_of}
use Rattle.file.specs.Reader.{num, slot_at, span_at, trailer_at, trailer_field, figures, distance, file_slots}
use Rattle.file.specs.Contents.{Bytes, slot, span, slot_record, span_record, outcome_of, span_of_record, content_of}
use Rattle.file.proofs.Numbers.{num_skip}
use Rattle.file.proofs.Rows.{before, field, field_at_lem, length_row, length_table, table_field, joined_bytes, row_bytes, table_bytes}
use Rattle.file.proofs.Fitting.{Fitting}
use Rattle.file.proofs.Records.{quality_back, letter_lt}
use Rattle.file.proofs.SpanRecords.{Stands, span_wide, span_read, width_le}

module _ (f : Content) where
  abbrev trailer : List (ℕ × ℕ)
  trailer = trailer_row (figures_of f)

  -- whether its span records are ranged, and how wide
  abbrev r : Bool
  r = ranged f.layout

  abbrev w : ℕ
  w = span_width r

  slot_part : List ℕ
  slot_part = table slot_row f.slots

  span_part : List ℕ
  span_part = table (span_row r) f.spans

  length_slots : length slot_part ≡ 6 * length f.slots
  unfolding slot_part
  length_slots = length_table slot_row 6 (λ x. refl) f.slots

  length_spans : length span_part ≡ w * length f.spans
  unfolding span_part
  length_spans = length_table (span_row r) w (span_wide r) f.spans

  parts : file_of f ≡ slot_part ++ (span_part ++ row trailer)
  unfolding file_of tables_of slot_part span_part
  parts = append_assoc slot_part span_part (row trailer)

  pub length_file : length (file_of f) ≡ 6 * length f.slots + w * length f.spans + 32
  length_file =
      ap length parts ∙ length-append slot_part (span_part ++ row trailer)
      ∙ ap (λ (n : ℕ). length slot_part + n) (length-append span_part (row trailer))
      ∙ omega (arith, length_slots, length_spans, length_row trailer)

  pub file_bytes : Bytes (file_of f)
  unfolding file_of tables_of
  file_bytes =
      joined_bytes (tables_of f) (row trailer)
      (joined_bytes (table slot_row f.slots) (table (span_row r) f.spans) (table_bytes slot_row f.slots)
      (table_bytes (span_row r) f.spans))
      (row_bytes trailer)

  pub trailer_place : trailer_at (file_of f) ≡ 6 * length f.slots + w * length f.spans
  trailer_place = omega (arith, length_file)

  pub slot_field : (i j : ℕ) → i < length f.slots → j < length (slot_row (slot f i))
      → (field (slot_row (slot f i)) j).1 < 256 ^ (field (slot_row (slot f i)) j).0
      → num (field (slot_row (slot f i)) j).0 (file_of f) (6 * i + before (slot_row (slot f i)) j) ≡ (field (slot_row (slot f i)) j).1
  unfolding slot_part
  slot_field i j l m fit = rw parts (table_field slot_row 6 (λ x. refl) f.slots no_outcome (span_part ++ row trailer) i j l m fit)

  pub span_field : (i : ℕ) → i < length f.spans → Stands r (span f i) (file_of f) (6 * length f.slots + w * i)
  unfolding span_part
  span_field i l j m fit =
      let k : ℕ = (field (span_row r (span f i)) j).0 in
      let o : ℕ = before (span_row r (span f i)) j in
      let e : 6 * length f.slots + w * i + o ≡ length slot_part + (w * i + o) = omega (arith, length_slots) in
      rw (parts, e)
      (num_skip slot_part (span_part ++ row trailer) k (w * i + o)
      ∙ table_field (span_row r) w (span_wide r) f.spans no_span (row trailer) i j l m fit)

  pub trailer_field_lem : (j : ℕ) → j < 10 → (field trailer j).1 < 256 ^ (field trailer j).0
      → num (field trailer j).0 (file_of f) (trailer_at (file_of f) + before trailer j) ≡ (field trailer j).1
  trailer_field_lem j l fit =
      let k : ℕ = (field trailer j).0 in
      let o : ℕ = before trailer j in
      let e : trailer_at (file_of f) + o ≡ length slot_part + (length span_part + o) =
      omega (arith, trailer_place, length_slots, length_spans) in
      rw (e, parts)
      (num_skip slot_part (span_part ++ row trailer) k (length span_part + o)
      ∙ num_skip span_part (row trailer) k o
      ∙ ap (λ (bs : List ℕ). num k bs o) (sym (append-nil (row trailer)))
      ∙ field_at_lem trailer [] j l fit)

-- ---- The content read back

module _ (f : Content) (h : Fitting f) where
  -- the record of slot i
  pub slot_back : (i : ℕ) → i < length f.slots → slot_at (file_of f) i ≡ slot_record (slot f i)
  unfolding slot_at
  slot_back i l =
      let v = slot_field f i 0 l (lit< tt) (h.each_slot i l).value in
      let q = slot_field f i 1 l (lit< tt) (letter_lt (slot f i).quality) in
      let m = slot_field f i 2 l (lit< tt) (h.each_slot i l).method in
      λ k. record { value = v k; letter = q k; method = m k }

  -- the record of span j, whose table begins at byte b
  pub span_back : (b : ℕ) → b ≡ 6 * length f.slots → (j : ℕ) → j < length f.spans
      → span_at (r f) (file_of f) b j ≡ span_record (span f j)
  span_back b e j l = rw e (span_read (span f j) (file_of f) _ (r f) (h.each_span j l) (span_field f j l))

  -- the trailer's head fields, layout and distance
  pub first_back_lem : trailer_field (file_of f) 0 ≡ f.first
  unfolding figures_of
  first_back_lem = trailer_field_lem f 0 (lit< tt) h.first

  pub days_back : trailer_field (file_of f) 1 ≡ f.days
  unfolding figures_of
  days_back = trailer_field_lem f 1 (lit< tt) h.days

  pub interval_back : trailer_field (file_of f) 2 ≡ f.interval
  unfolding figures_of
  interval_back = trailer_field_lem f 2 (lit< tt) h.interval

  pub layout_back : trailer_field (file_of f) 3 ≡ f.layout
  unfolding figures_of
  layout_back = trailer_field_lem f 3 (lit< tt) h.layout

  pub spans_back : trailer_field (file_of f) 4 ≡ length f.spans
  unfolding figures_of
  spans_back = trailer_field_lem f 4 (lit< tt) h.spans

  pub distance_back : distance (file_of f) ≡ w f * length f.spans
  unfolding figures_of
  distance_back = trailer_field_lem f 9 (lit< tt) (omega (arith, h.spans, mul-le-mul_right (length f.spans) (width_le (r f))))

  -- N
  slots_back : file_slots (figures (file_of f)) ≡ length f.slots
  unfolding figures
  slots_back = rw (interval_back, days_back) (sym h.slots)

  slots_list : (n : ℕ) → n ≡ length f.slots → up_to (λ i. outcome_of (slot_at (file_of f) i)) 0 n ≡ f.slots
  slots_list n e =
      rw e (up_to_list f.slots no_outcome _ 0 (λ i l.
      ap (λ (x : ℕ). outcome_of (slot_at (file_of f) x)) (zero-add i) ∙ ap outcome_of (slot_back i l)
      ∙ (λ k. record { value = (slot f i).value; quality = quality_back (slot f i).quality k; method = (slot f i).method })))

  spans_list : (q : Bool) (b n : ℕ) → q ≡ r f → b ≡ 6 * length f.slots → n ≡ length f.spans
      → up_to (λ j. span_of_record (span_at q (file_of f) b j)) 0 n ≡ f.spans
  spans_list q b n d e m =
      rw (d, m) (up_to_list f.spans no_span _ 0
      (λ j l. ap (λ (x : ℕ). span_of_record (span_at (r f) (file_of f) b x)) (zero-add j) ∙ ap span_of_record (span_back b e j l)))

  -- the content of the file's figures and bytes is the content
  read_back : content_of (figures (file_of f)) (file_of f) ≡ f
  unfolding content_of figures
  read_back =
      λ k. record {
        layout = layout_back k;
        first = first_back_lem k;
        days = days_back k;
        interval = interval_back k;
        slots = slots_list _ slots_back k;
        spans = spans_list _ _ _ (ap ranged layout_back) (ap (λ (n : ℕ). 6 * n) slots_back) spans_back k;
      }

-- contents that fit their fields have equal files only when they are equal
pub injective : (f g : Content) → Fitting f → Fitting g → file_of f ≡ file_of g → f ≡ g
injective f g hf hg e = sym (read_back f hf) ∙ ap (λ (bs : List ℕ). content_of (figures bs) bs) e ∙ read_back g hg
