-- Bytes that the reader accepts are the file of the content that their figures and tables hold.
use Rattle.base.specs.declared.Refusal.{Refusal}
use Rattle.std.specs.Prelude.{Result, Ok}
use mathlib.Core.Path.{◌≡◌, refl, sym, ap, ap₂, ◌∙◌}
use mathlib.Core.Bool.{Bool}
use mathlib.Core.List.{List, [], ◌∷◌, ◌++◌}
use Prim.Native.Nat.{ℕ, ◌+◌, ◌*◌, ◌≤◌, ◌<◌}
use native.Mathlib.Nat.{zero-add}
use native.Mathlib.Omega.{arith}
use borrow.Author.Tests.{eqb-true}
use lib.ListN.{length, take, drop, take-append-drop, length-drop}
use lib.Seq.{take-add, take_all}
use Rattle.base.specs.Lists.{up_to}
use Rattle.base.proofs.Lists.{length_up_to, get_d_up_to, up_to_cong}
use Rattle.base.proofs.Logic.{passed}
use Rattle.base.proofs.Sums.{all_at}
use Rattle.rules.specs.declared.Quality.{Quality}
use Rattle.rules.specs.declared.Quality.TheVariants.{A, S, F, N}
use Rattle.rules.specs.Spans.{is_a, is_s, is_f, is_n, no_outcome, no_span}
use Rattle.file.specs.declared.Figures.{Figures}
use Rattle.file.specs.declared.slots.SlotRecord.{SlotRecord}
use Rattle.file.specs.Layout.{Content, total, one, row, fields_of, table, slot_widths, slot_row, span_row, ranged, span_width}
use Rattle.file.specs.Layout.{span_table_bytes, trailer_widths, trailer_row, figures_of, tables_of, file_of}
use Rattle.file.specs.Reader.{field_at, slot_at, span_at, trailer_at, trailer_field, figures, layout_fits, file_slots, tables_at, count_of}
use Rattle.file.specs.Reader.{trailer_tests, table_tests, figure_tests, span_tests, span_ok, trailer_ok, tables_ok, figures_ok, read_file}
use Rattle.file.specs.Reader.{part_of, tables_part}
use Rattle.file.specs.Contents.{Bytes, WellFormed, slot, span, slot_record, span_record, records_of, outcome_of, span_of_record}
use Rattle.file.specs.Contents.{content_of}
use Rattle.file.specs.Claim.{Exactly, Canonical}
use Rattle.file.proofs.Offsets.{value_lt}
use Rattle.file.proofs.Rows.{row_reads, field_take, table_reads}
use Rattle.file.proofs.Records.{record_tells}
use Rattle.file.proofs.SpanRecords.{record_within, from_exact, from_take, span_written}
use Rattle.file.proofs.Agree.{Agree, count_agree, sum_agree, tables_agree}
use Rattle.file.proofs.Answers.{Passed, ready, tests_passed}
use Rattle.file.proofs.Accepted.{Tests, tests_a, tests_s, tests_f, tests_n, count_own, sum_own, accepted, tables_back}
use Rattle.file.proofs.Content.{file_bytes, injective}
use Rattle.file.proofs.Fitting.{fitting}

module _ (bs : List ℕ) (b : Bytes bs) (p : Passed bs (figures bs)) where
  abbrev g : Figures
  g = figures bs

  abbrev n : ℕ
  n = file_slots (figures bs)

  abbrev m : ℕ
  m = (figures bs).spans

  abbrev t : ℕ
  t = trailer_at bs

  -- whether its span records are ranged, and how wide
  abbrev r : Bool
  r = ranged (figures bs).layout

  abbrev w : ℕ
  w = span_width r

  abbrev f : Content
  f = content_of (figures bs) bs

  long : length bs ≡ 6 * n + w * m + 32
  long = (ready bs g p.trailer).long

  -- the records are those of outcomes and spans
  slot_right : (i : ℕ) → i < n → slot_record (outcome_of (slot_at bs i)) ≡ slot_at bs i
  unfolding tables_ok
  slot_right i l =
      let e = (record_tells (slot_at bs i) (all_at _ n (passed (table_tests (tables_at bs g)) p.tables 0) i l)).0 in
      λ k. record { value = (slot_at bs i).value; letter = e k; method = (slot_at bs i).method }

  blank_right : (j : ℕ) → j < m → (span_at r bs (6 * n) j).blank ≡ 0
  unfolding tables_ok span_ok
  blank_right j l =
      eqb-true _ _ (passed (span_tests (tables_at bs g) j) (all_at _ m (passed (table_tests (tables_at bs g)) p.tables 1) j l) 6)

  span_right : (j : ℕ) → j < m → span_record (span_of_record (span_at r bs (6 * n) j)) ≡ span_at r bs (6 * n) j
  span_right j l =
      let s = span_at r bs (6 * n) j in
      let e = blank_right j l in
      λ k. record { first = s.first; last = s.last; lowest = s.lowest; highest = s.highest; state = s.state; blank = sym e k }

  slot_is : (i : ℕ) → i < n → slot f i ≡ outcome_of (slot_at bs i)
  unfolding content_of
  slot_is i l = get_d_up_to _ no_outcome 0 n i l ∙ ap (λ (x : ℕ). outcome_of (slot_at bs x)) (zero-add i)

  span_is : (j : ℕ) → j < m → span f j ≡ span_of_record (span_at r bs (6 * n) j)
  unfolding content_of
  span_is j l = get_d_up_to _ no_span 0 m j l ∙ ap (λ (x : ℕ). span_of_record (span_at r bs (6 * n) x)) (zero-add j)

  agree : Agree (records_of f) (tables_at bs g)
  unfolding content_of
  agree = record {
    per_day = refl;
    days = refl;
    spans = length_up_to _ 0 m;
    slot = λ i l. ap slot_record (slot_is i l) ∙ slot_right i l;
    span = λ j l. ap span_record (span_is j l) ∙ span_right j l;
  }

  -- the figures are the content's
  count_right : (q : Quality) (h : Quality → _) → Tests q h → total (one h) f.slots ≡ count_of (tables_at bs g) q
  unfolding content_of
  count_right q h s = sym (count_own f (length_up_to _ 0 n) q h s) ∙ count_agree (records_of f) (tables_at bs g) agree q

  figures_right : figures_of f ≡ g
  unfolding figures_of figures_ok content_of
  figures_right =
      let test = passed (figure_tests (tables_at bs g) g) p.figures in
      let actual : total (one is_a) f.slots ≡ g.actual = count_right A is_a tests_a ∙ eqb-true _ _ (test 0) in
      let agreed = count_right F is_f tests_f in
      let substituted : total (one is_s) f.slots + total (one is_f) f.slots ≡ g.substituted =
      ap₂ (λ (x y : ℕ). x + y) (count_right S is_s tests_s) agreed ∙ eqb-true _ _ (test 1) in
      let none : total (one is_n) f.slots ≡ g.none = count_right N is_n tests_n ∙ eqb-true _ _ (test 2) in
      let value : total (λ o. o.value) f.slots ≡ g.sum =
      sym (sum_own f (length_up_to _ 0 n)) ∙ sum_agree (records_of f) (tables_at bs g) agree ∙ eqb-true _ _ (test 4) in
      λ k. record {
        first = g.first;
        days = g.days;
        interval = g.interval;
        spans = length_up_to (λ j. span_of_record (span_at r bs (6 * n) j)) 0 m k;
        actual = actual k;
        substituted = substituted k;
        none = none k;
        sum = value k;
        layout = g.layout;
      }

  -- the three parts of the file
  slot_row_lem : (i : ℕ) → i < n → row (slot_row (outcome_of (slot_at bs i))) ≡ take 6 (drop (6 * i) bs)
  unfolding slot_at
  slot_row_lem i l =
      let f = field_at slot_widths bs (6 * i) in
      ap (λ (r : SlotRecord). row (fields_of slot_widths (f 0 ∷ r.letter ∷ f 2 ∷ []))) (slot_right i l)
      ∙ row_reads bs b slot_widths (6 * i) (omega (arith, long))

  span_in : (j : ℕ) → j < m → 6 * n + w * j + w ≤ t
  span_in j l = omega (arith, long, record_within r j m l)

  slots_part : table slot_row f.slots ≡ take (6 * n) (drop 0 bs)
  unfolding content_of
  slots_part =
      table_reads slot_row 6 _ bs 0 n (λ i l. slot_row_lem i l ∙ rw zero-add)

  spans_part : table (span_row r) f.spans ≡ take (w * m) (drop (6 * n) bs)
  unfolding content_of
  spans_part =
      table_reads (span_row r) w _ bs (6 * n) m
      (λ j l. span_written bs (6 * n + w * j) b r (omega (arith, long, span_in j l)) (blank_right j l))

  trailer_row_lem : row (trailer_row g) ≡ take 32 (drop t bs)
  unfolding figures trailer_ok
  trailer_row_lem =
      let f = trailer_field bs in
      let distance : span_table_bytes g ≡ f 9 = sym (eqb-true _ _ (passed (trailer_tests bs g) p.trailer 3)) in
      ap (λ (x : ℕ). row (fields_of trailer_widths (f 0 ∷ f 1 ∷ f 2 ∷ f 3 ∷ f 4 ∷ f 5 ∷ f 6 ∷ f 7 ∷ f 8 ∷ x ∷ []))) distance
      ∙ row_reads bs b trailer_widths t (omega (arith, long))

  trailer_part : row (trailer_row (figures_of f)) ≡ drop (6 * n + w * m) bs
  trailer_part =
      let e : t ≡ 6 * n + w * m = omega (arith, long) in
      let s : length (drop t bs) ≤ 32 = rw length-drop (omega (arith, long)) in
      ap (λ (x : Figures). row (trailer_row x)) figures_right
      ∙ trailer_row_lem ∙ take_all 32 (drop t bs) s ∙ ap (λ (x : ℕ). drop x bs) e

  file_right : file_of f ≡ bs
  unfolding file_of tables_of content_of
  file_right =
      let join : take (6 * n) (drop 0 bs) ++ take (w * m) (drop (6 * n) bs) ≡ take (6 * n + w * m) bs = rw take-add in
      ap₂ (λ (x y : List ℕ). x ++ y) (ap₂ (λ (x y : List ℕ). x ++ y) slots_part spans_part ∙ join) trailer_part
      ∙ take-append-drop (6 * n + w * m) bs

  well_formed : WellFormed f
  unfolding content_of
  well_formed = record {
    head = (ready bs g p.trailer).head;
    slots = length_up_to _ 0 n;
    values = λ i l.
        let k : i < n = rw (length_up_to (λ x. outcome_of (slot_at bs x)) 0 n) at l in
        rw (slot_is i k) (value_lt bs b i);
    tables = tables_agree (records_of f) (tables_at bs g) agree (unfold tables_ok in p.tables);
    known = unfold trailer_ok in passed (trailer_tests bs g) p.trailer 2;
    fits =
        ap (layout_fits g.layout) (count_right F is_f tests_f)
        ∙ (unfold figures_ok in passed (figure_tests (tables_at bs g) g) p.figures 3);
    exact = λ e j l.
        let k : j < m = rw (length_up_to (λ x. span_of_record (span_at r bs (6 * n) x)) 0 m) at l in
        rw (span_is j k) (from_exact bs (6 * n + w * j) r e);
  }

  -- the tables' bytes hold the same content
  slot_same : (i : ℕ) → i < n → slot_at (take t bs) i ≡ slot_at bs i
  unfolding slot_at
  slot_same i l =
      let same = field_take bs t slot_widths (6 * i) (omega (arith, long)) in
      λ k. record { value = same 0 k; letter = same 1 k; method = same 2 k }

  span_same : (j : ℕ) → j < m → span_at r (take t bs) (6 * n) j ≡ span_at r bs (6 * n) j
  span_same j l = from_take bs (6 * n + w * j) t r (span_in j l)

  part_same : content_of g (take t bs) ≡ f
  unfolding content_of
  part_same =
      let slots : up_to (λ i. outcome_of (slot_at (take t bs) i)) 0 n ≡ up_to (λ i. outcome_of (slot_at bs i)) 0 n =
      up_to_cong _ _ 0 n (λ i l. ap outcome_of (slot_same i (omega arith))) in
      let spans : up_to (λ j. span_of_record (span_at r (take t bs) (6 * n) j)) 0 m ≡ up_to (λ j. span_of_record (span_at r bs (6 * n) j)) 0
      m =
      up_to_cong _ _ 0 m (λ j l. ap span_of_record (span_same j (omega arith))) in
      λ k. record { layout = g.layout; first = g.first; days = g.days; interval = g.interval; slots = slots k; spans = spans k }

-- a content's tables are those that the reader hands back of its file
tables_same : (f : Content) → WellFormed f → (bs : List ℕ) → file_of f ≡ bs → tables_of f ≡ tables_part bs
tables_same f w bs e = sym (tables_back f w) ∙ ap tables_part e

-- what the reader accepts is the file of a well-formed content: the one that its answers, figures and tables, hold
pub canonical : Canonical
canonical bs b g e =
    let (k, same) = tests_passed bs g e in
    let p : Passed bs (figures bs) = rw same k in
    let part : tables_part bs ≡ take (trailer_at bs) bs = unfold tables_part in ap (λ (v : Result Figures Refusal). part_of v bs) e in
    let content : content_of g (tables_part bs) ≡ content_of (figures bs) bs =
    ap (content_of g) part ∙ ap (λ (x : Figures). content_of x (take (trailer_at bs) bs)) (sym same) ∙ part_same bs b p in
    rw content (record {
      formed = well_formed bs b p;
      file = file_right bs b p;
      figures = figures_right bs b p ∙ same;
      tables = tables_same (content_of (figures bs) bs) (well_formed bs b p) bs (file_right bs b p);
    })

-- figures and tables together determine the file
pub determined : (bs cs : List ℕ) → Bytes bs → Bytes cs → (g : Figures) → read_file bs ≡ Ok g → read_file cs ≡ Ok g
    → tables_part bs ≡ tables_part cs → bs ≡ cs
determined bs cs b c g d e s =
    sym (canonical bs b g d).file ∙ ap (λ (x : List ℕ). file_of (content_of g x)) s ∙ (canonical cs c g e).file

-- the reader accepts exactly the files of well-formed contents, with their figures and tables
pub exactly : Exactly
exactly bs b g part = (
  λ e. (content_of g (tables_part bs), rw (← e.1) (canonical bs b g e.0)),
  λ (f, w). (
    ap read_file (sym w.file) ∙ accepted f w.formed ∙ ap Ok w.figures,
    sym (tables_same f w.formed bs w.file) ∙ w.tables,
  ),
)

-- the figures and tables of a well-formed content hold it
pub content_back : (f : Content) → WellFormed f → content_of (figures_of f) (tables_of f) ≡ f
content_back f w =
    let k = canonical (file_of f) (file_bytes f) (figures_of f) (accepted f w) in
    rw (tables_back f w) at (injective (content_of (figures_of f) (tables_part (file_of f))) f (fitting _ k.formed) (fitting f w) k.file)
