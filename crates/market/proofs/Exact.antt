-- Two exports with equal texts and codes are equal exactly when what is written of their files is.
use Rattle.std.specs.Prelude.{None, Some, Ok}
use mathlib.Core.Bool.{Bool, true, false, cond, false≢true}
use mathlib.Core.List.{List, [], ◌∷◌, ◌++◌, append_assoc, append_cancel_left, tail-eq_of_cons-eq}
use mathlib.Core.Path.{◌≡◌, sym, ap, subst, ◌∙◌}
use Prim.Native.Nat.{ℕ, ◌+◌, ◌*◌, ◌/◌, ◌^◌, ◌≤◌, ◌<◌}
use native.Mathlib.Nat.{div-add-mod', mod-lt, div-lt_iff_lt-mul, mul_comm}
use native.Mathlib.Omega.{arith}
use borrow.Author.Tests.{leb-true}
use lib.Dec.{leb, eqb}
use lib.ListN.{length, take, drop}
use lib.Seq.{take-append_seam}
use Rattle.base.proofs.Logic.{passed}
use Rattle.base.proofs.Sums.{all_at}
use Rattle.file.specs.declared.Figures.{Figures}
use Rattle.file.specs.declared.slots.SlotRecord.{SlotRecord}
use Rattle.file.specs.Contents.{Bytes}
use Rattle.file.specs.Reader.{slot_at, head_field_tests, record_ok, table_tests, tables_at, tables_ok, read_file}
use Rattle.file.proofs.Answers.{ready, tests_passed}
use Rattle.file.proofs.Head.{interval_is}
use Rattle.file.proofs.Offsets.{value_lt}
use Rattle.line.specs.Line.{decimal}
use Rattle.market.specs.declared.Codes.{Codes}
use Rattle.market.specs.declared.marks.Mark.{Mark}
use Rattle.market.specs.Fields.{Texts, field, fields, has_code, code_for, mark_of}
use Rattle.base.specs.Text.{ascii}
use Rattle.market.specs.Records.{record100, record200, record900, days_of}
use Rattle.market.specs.Export.{Content, content_of, body_of, export_of, codes_ok, supplied_tests, supplied_ok, export_answer, export_after}
use Rattle.market.specs.Claim.{SameContent, EqualExactly}
use Rattle.file.proofs.Answers.{figures_are, tabled, dates_le}
use Rattle.market.proofs.Answers.{answer_is}
use Rattle.market.proofs.Numerals.{decimal_split}
use Rattle.market.proofs.Splits.{Coded, Plainly}
use Rattle.market.proofs.DaySplits.{Slots, Told, days_split}
use Rattle.market.proofs.SameText.{content_same}

-- ---- The record 200 tells L

front_parts : (a b c d e f g h x r : List ℕ)
    → (a ++ (b ++ (c ++ (d ++ (e ++ (f ++ (g ++ (h ++ x)))))))) ++ r ≡ (a ++ (b ++ (c ++ (d ++ (e ++ (f ++ (g ++ h))))))) ++ (x ++ r)
front_parts a b c d e f g h x r = simp append_assoc

split_200 : (identifier configuration register suffix stream serial next_read : List ℕ) (l m : ℕ) → l < 2 ^ 32 → m < 2 ^ 32 →
    (r r' : List ℕ)
    → record200 identifier configuration register suffix stream serial l next_read ++ r
    ≡ record200 identifier configuration register suffix stream serial m next_read ++ r'
    → (l ≡ m) × (r ≡ r')
unfolding record200 fields
split_200 identifier configuration register suffix stream serial next_read l m p q r r' e =
    let unit : List ℕ = field (107 ∷ 87 ∷ 104 ∷ []) in
    let front : List ℕ = ascii "200" ++
    (field identifier ++ (field configuration ++ (field register ++ (field suffix ++ (field stream ++ (field serial ++ unit)))))) in
    let end : List ℕ = next_read ++ (13 ∷ 10 ∷ []) in
    let parts : (x s : List ℕ)
    → (ascii "200" ++ (field identifier ++
    (field configuration ++ (field register ++ (field suffix ++ (field stream ++ (field serial ++ (unit ++ x)))))))) ++ s
    ≡ front ++ (x ++ s) =
    λ x s. front_parts (ascii "200") (field identifier) (field configuration) (field register) (field suffix) (field stream) (field serial)
    unit x s in
    let flat =
    append_cancel_left front _ _
    (sym (parts (field (decimal l) ++ (44 ∷ end)) r) ∙ e ∙ parts (field (decimal m) ++ (44 ∷ end)) r') in
    let interval =
    decimal_split l m p q 44 44 (omega arith) (omega arith) (end ++ r) (end ++ r')
    (sym (append_assoc (decimal l) (44 ∷ end) r) ∙ tail-eq_of_cons-eq flat ∙ append_assoc (decimal m) (44 ∷ end) r') in
    (interval.0, append_cancel_left end r r' interval.1)

-- ---- An export tells its content

-- what is known of the content of an accepted file
record Sound (c : Content) : Type 0 where
  some : 1 ≤ 1440 / c.interval
  few : 1440 / c.interval ≤ 288
  short : c.interval < 2 ^ 32
  begun : 1 ≤ c.days
  dates : c.first + c.days ≤ 36525
  slots : Slots c.value c.mark (1440 / c.interval * c.days)

-- the slots of a told list of days
by_slot : (first first' : ℕ) (v w : ℕ → ℕ) (mark other : ℕ → Mark) (n D : ℕ) → 1 ≤ n
    → ((d : ℕ) → 0 ≤ d → d < D → Told first first' v w mark other n d)
    → (i : ℕ) → i < n * D → (v i ≡ w i) × (mark i ≡ other i)
by_slot first first' v w mark other n D some told i l =
    let pos : 0 < n = omega arith in
    let turned : i < D * n = rw (mul_comm n D) at l in
    let day : i / n < D = (div-lt_iff_lt-mul pos).1 turned in
    let low : i / n * n ≤ i = omega (arith, div-add-mod' i n) in
    let high : i < i / n * n + n = omega (arith, div-add-mod' i n, mod-lt i pos) in
    (told (i / n) (omega arith) day).1 i low high

body_parts : (a b c d : List ℕ) → (a ++ (b ++ c)) ++ d ≡ a ++ (b ++ (c ++ d))
body_parts a b c d = simp append_assoc

content_told : (t : Texts) (c d : Content) → Sound c → Sound d → export_of t c ≡ export_of t d → SameContent c d
unfolding export_of body_of days_of
content_told t c d p q e =
    let head : List ℕ = record100 t.created t.from t.to in
    let meter : ℕ → List ℕ =
    λ l. record200 t.identifier t.configuration t.register t.suffix t.stream t.serial l t.next_read in
    let days : ℕ → Content → List ℕ = λ n x. days_of t.reason t.created x.first x.value x.mark n x.days in
    let flat =
    append_cancel_left head _ _
    (sym (body_parts head (meter c.interval) (days (1440 / c.interval) c) record900) ∙ e
    ∙ body_parts head (meter d.interval) (days (1440 / d.interval) d) record900) in
    let split =
    split_200 t.identifier t.configuration t.register t.suffix t.stream t.serial t.next_read c.interval d.interval
    p.short q.short
    (days (1440 / c.interval) c ++ record900) (days (1440 / d.interval) d ++ record900) flat in
    let n : ℕ = 1440 / c.interval in
    let same : days n c ++ record900 ≡ days n d ++ record900 = split.1 ∙ ap (λ (x : ℕ). days (1440 / x) d ++ record900) (sym split.0) in
    let others : Slots d.value d.mark (n * d.days) =
    subst (λ (x : ℕ). Slots d.value d.mark (1440 / x * d.days)) (sym split.0) q.slots in
    let told =
    days_split t.reason t.created c.first d.first c.value d.value c.mark d.mark n c.days d.days p.few
    p.some p.slots others p.dates
    q.dates c.days d.days 0 (omega arith) (omega arith) same in
    let slot = by_slot c.first d.first c.value d.value c.mark d.mark n c.days p.some told.1 in
    let begun : 0 < c.days = omega (arith, p.begun) in
    let start : c.first + 0 ≡ d.first + 0 = (told.1 0 (omega arith) begun).0 in
    record {
      first = omega arith;
      days = told.0;
      interval = split.0;
      values = λ i l. (slot i l).0;
      qualities = λ i l. ap (λ (m : Mark). m.letter) (slot i l).1;
      methods = λ i l. ap (λ (m : Mark). m.code) (slot i l).1;
    }

-- ---- The content of an accepted file

cond_le : (b : Bool) (x y : ℕ) → x ≤ 99 → y ≤ 99 → cond b x y ≤ 99
cond_le true x y p q = p
cond_le false x y p q = q

code_le : (codes : Codes) → codes_ok codes ≡ true → (method : ℕ) → code_for codes method ≤ 99
unfolding codes_ok code_for
code_le codes ok method =
    let tests = leb codes.two 99 ∷ leb codes.three 99 ∷ leb codes.five 99 ∷ leb codes.eighteen 99 ∷ leb codes.nineteen 99
    ∷ [] in
    cond_le (eqb method 2) _ _ (leb-true _ _ (passed tests ok 0))
    (cond_le (eqb method 3) _ _ (leb-true _ _ (passed tests ok 1))
    (cond_le (eqb method 5) _ _ (leb-true _ _ (passed tests ok 2))
    (cond_le (eqb method 18) _ _ (leb-true _ _ (passed tests ok 3)) (leb-true _ _ (passed tests ok 4)))))

plain_mark : (codes : Codes) → codes_ok codes ≡ true → (s : SlotRecord) → Plainly (mark_of codes s)
unfolding mark_of
plain_mark codes ok s = coded (has_code s.letter) (code_for codes s.method) (code_le codes ok s.method)
  where
    coded : (b : Bool) (code : ℕ) → code ≤ 99 → Coded b (cond b (Some code) None)
    coded true code l = l
    coded false code l = omega arith

not_v : (s : SlotRecord) → record_ok s ≡ true → s.letter ≡ 86 → ⊥
unfolding record_ok
not_v s ok e =
    let no : record_ok s ≡ false = rw e in
    false≢true (sym no ∙ ok)

sound : (bs : List ℕ) → Bytes bs → (g : Figures) → read_file bs ≡ Ok g → (t : Texts) (codes : Codes)
    → supplied_ok t codes ≡ true → Sound (content_of codes bs)
unfolding content_of supplied_ok mark_of tables_ok
sound bs b g e t codes ok =
    let all_passed = tests_passed bs g e in
    let head = (ready bs g all_passed.0.trailer).head in
    let table = tabled bs g e in
    let is = sym (figures_are bs g e) in
    let codes-ok : codes_ok codes ≡ true = passed (supplied_tests t codes) ok 10 in
    let records = passed (table_tests (tables_at bs g)) all_passed.0.tables 0 in
    subst (λ (f : Figures). Sound (record {
      first = f.first;
      days = f.days;
      interval = f.interval;
      value = λ i. (slot_at bs i).value;
      mark = λ i. mark_of codes (slot_at bs i);
    })) is
    (record {
      some = table.some;
      few = table.day;
      short = interval_is g.first g.days g.interval head (λ x. x < 2 ^ 32) (omega arith) (omega arith) (omega arith);
      begun = leb-true _ _ (passed (head_field_tests g.first g.days g.interval) head 1);
      dates = dates_le bs g e;
      slots = record {
        value = λ i. value_lt bs b i;
        plain = λ i l. plain_mark codes codes-ok (slot_at bs i);
        letter = λ i l. not_v (slot_at bs i) (all_at (λ j. record_ok (slot_at bs j)) (1440 / g.interval * g.days) records i l);
      };
    })

-- ---- A call that answers a length

module _ (bs : List ℕ) (t : Texts) (codes : Codes) (out : List ℕ) (m : ℕ) (e : export_answer bs t codes out ≡ Ok m) where
  -- the bytes up to the length are the export
  written_is : take m (export_after bs t codes out) ≡ export_of t (content_of codes bs)
  unfolding export_after
  written_is =
      rw (e, ← (answer_is bs t codes out m e).long)
      (take-append_seam (export_of t (content_of codes bs)) (drop (length (export_of t (content_of codes bs))) out))

pub equal_exactly : EqualExactly
equal_exactly bs cs b c t codes out other m n e f =
    let one = answer_is bs t codes out m e in
    let two = answer_is cs t codes other n f in
    let left = sound bs b one.figures one.accepted t codes one.supplied in
    let right = sound cs c two.figures two.accepted t codes two.supplied in
    let texts : take m (export_after bs t codes out) ≡ export_of t (content_of codes bs) = written_is bs t codes out m e in
    let texts' : take n (export_after cs t codes other) ≡ export_of t (content_of codes cs) = written_is cs t codes other n f in (
      λ s. content_told t (content_of codes bs) (content_of codes cs) left right (sym texts ∙ s.1 ∙ texts'),
      λ s.
          let same = content_same t (content_of codes bs) (content_of codes cs) right.some s in
          (sym one.long ∙ ap length same ∙ two.long, texts ∙ same ∙ sym texts'),
    )
