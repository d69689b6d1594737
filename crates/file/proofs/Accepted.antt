-- The file of a well-formed content is accepted, with the content's figures and tables.
use Rattle.std.specs.Prelude.{Ok}
use mathlib.Core.Path.{◌≡◌, refl, sym, ap, ap₂, ◌∙◌}
use mathlib.Core.Bool.{Bool, true, cond}
use Prim.Native.Nat.{ℕ, ◌+◌, ◌-◌, ◌*◌, ◌/◌, ◌^◌, ◌≤◌, ◌<◌}
use native.Mathlib.Nat.{zero-add}
use native.Mathlib.Omega.{arith}
use borrow.Author.Tests.{le-leb, eq-eqb}
use lib.Dec.{lit<, leb, eqb}
use lib.ListN.{length, length-append}
use lib.Seq.{take_at}
use Rattle.base.specs.Lists.{sum}
use Rattle.base.proofs.Lists.{up_to_list}
use Rattle.base.proofs.Logic.{bit_le}
use Rattle.base.proofs.Sums.{sum_cong}
use Rattle.rules.specs.declared.Outcome.{Outcome}
use Rattle.rules.specs.declared.Quality.{Quality}
use Rattle.rules.specs.declared.Quality.TheVariants.{A, S, F, N}
use Rattle.rules.specs.Spans.{is_a, is_s, is_f, is_n, no_outcome}
use Rattle.file.specs.Layout.{Content, letter, total, one, row, ranged, span_width, trailer_row, figures_of, tables_of, file_of}
use Rattle.file.specs.Reader.{figures, file_slots, layout_fits, count_of, tables_at, trailer_ok, tables_ok, figures_ok, read_file, part_of}
use Rattle.file.specs.Reader.{tables_part}
use Rattle.file.specs.Contents.{WellFormed, slot, records_of}
use Rattle.file.proofs.Rows.{length_row}
use Rattle.file.proofs.Lists.{total_sum, total_le}
use Rattle.file.proofs.Head.{slots_le}
use Rattle.file.proofs.Records.{each}
use Rattle.file.proofs.Fitting.{Fitting, fitting}
use Rattle.file.proofs.Content.{slot_back, span_back, first_back_lem, days_back, interval_back, layout_back, spans_back, distance_back}
use Rattle.file.proofs.Content.{trailer_field_lem, length_file}
use Rattle.file.proofs.Agree.{Agree, count_agree, sum_agree, tables_agree}
use Rattle.file.proofs.Answers.{accepted_with}

-- a figure of a content, as a sum over its slots
total_slots : (f : Content) (g : Outcome → ℕ) → total g f.slots ≡ sum (λ i. g (slot f i)) 0 (length f.slots)
total_slots f g =
    ap (total g) (sym (up_to_list f.slots no_outcome (slot f) 0 (λ i l. ap (slot f) (zero-add i))))
    ∙ total_sum g (slot f) 0 (length f.slots)

-- a quality's test, and that of its letter
pub record Tests (q : Quality) (p : Quality → Bool) : Type 0 where
  pub same : (r : Quality) → eqb (letter r) (letter q) ≡ p r

pub tests_a : Tests A is_a
tests_a = record { same = each (λ r. eqb (letter r) (letter A) ≡ is_a r) refl refl refl refl }

pub tests_s : Tests S is_s
tests_s = record { same = each (λ r. eqb (letter r) (letter S) ≡ is_s r) refl refl refl refl }

pub tests_f : Tests F is_f
tests_f = record { same = each (λ r. eqb (letter r) (letter F) ≡ is_f r) refl refl refl refl }

pub tests_n : Tests N is_n
tests_n = record { same = each (λ r. eqb (letter r) (letter N) ≡ is_n r) refl refl refl refl }

-- the counts and the sum of a content's own records
pub count_own : (f : Content) → length f.slots ≡ 1440 / f.interval * f.days → (q : Quality) (p : Quality → Bool) → Tests q p
    → count_of (records_of f) q ≡ total (one p) f.slots
count_own f e q p s =
    rw (← e) (sum_cong _ _ 0 (length f.slots) (λ i _ _. ap (λ (b : Bool). cond b 1 0) (s.same (slot f i).quality))
    ∙ sym (total_slots f (one p)))

pub sum_own : (f : Content) → length f.slots ≡ 1440 / f.interval * f.days
    → sum (λ i. (slot f i).value) 0 (1440 / f.interval * f.days) ≡ total (λ o. o.value) f.slots
sum_own f e = rw (← e) (sym (total_slots f (λ o. o.value)))

module _ (f : Content) (w : WellFormed f) where
  fits : Fitting f
  fits = fitting f w

  few : length f.slots ≤ 115_200
  few = rw w.slots (slots_le f.first f.days f.interval w.head)

  count_le : (p : Quality → Bool) → total (one p) f.slots ≤ 115_200
  count_le p = omega (arith, few, total_le (one p) 1 no_outcome f.slots (λ i l. bit_le (p (slot f i).quality)))

  count_lt : (p : Quality → Bool) → total (one p) f.slots < 256 ^ 4
  count_lt p = omega (arith, count_le p)

  filled_lt : total (one is_s) f.slots + total (one is_f) f.slots < 256 ^ 4
  filled_lt = omega (arith, count_le is_s, count_le is_f)

  sum_lt : total (λ o. o.value) f.slots < 256 ^ 8
  sum_lt = omega (arith, few, total_le (λ o. o.value) (2 ^ 32) no_outcome f.slots (λ i l. omega (arith, w.values i l)))

  figures_back : figures (file_of f) ≡ figures_of f
  unfolding figures figures_of
  figures_back =
      λ k. record {
        first = first_back_lem f fits k;
        days = days_back f fits k;
        interval = interval_back f fits k;
        spans = spans_back f fits k;
        actual = trailer_field_lem f 5 (lit< tt) (count_lt is_a) k;
        substituted = trailer_field_lem f 6 (lit< tt) filled_lt k;
        none = trailer_field_lem f 7 (lit< tt) (count_lt is_n) k;
        sum = trailer_field_lem f 8 (lit< tt) sum_lt k;
        layout = layout_back f fits k;
      }

  base : 6 * file_slots (figures_of f) ≡ 6 * length f.slots
  unfolding figures_of
  base = rw w.slots

  agree : Agree (tables_at (file_of f) (figures_of f)) (records_of f)
  unfolding figures_of
  agree = record {
    per_day = refl;
    days = refl;
    spans = refl;
    slot = λ i l. slot_back f fits i (rw w.slots l);
    span = λ j l. span_back f fits _ base j l;
  }

  trailer_right : trailer_ok (file_of f) (figures_of f) ≡ true
  unfolding trailer_ok figures_of
  trailer_right =
      let long : leb 32 (length (file_of f)) ≡ true = le-leb 32 (length (file_of f)) (omega (arith, length_file f)) in
      let end : ℕ = 6 * (1440 / f.interval * f.days) + span_width (ranged f.layout) * length f.spans + 32 in
      let whole : eqb (length (file_of f)) end ≡ true = eq-eqb (length (file_of f)) end (omega (arith, length_file f, base)) in
      rw (long, w.head, w.known, eq-eqb _ _ (distance_back f fits), whole)

  tables_right : tables_ok (file_of f) (figures_of f) ≡ true
  unfolding tables_ok
  tables_right = tables_agree (tables_at (file_of f) (figures_of f)) (records_of f) agree w.tables

  figures_right : figures_ok (file_of f) (figures_of f) ≡ true
  unfolding figures_ok figures_of
  figures_right =
      let own = count_agree (tables_at (file_of f) (figures_of f)) (records_of f) agree in
      let agreed = own F ∙ count_own f w.slots F is_f tests_f in
      let goes = ap (layout_fits f.layout) agreed ∙ w.fits in
      rw (
        eq-eqb _ _ (own A ∙ count_own f w.slots A is_a tests_a),
        eq-eqb _ _ (ap₂ (λ (x y : ℕ). x + y) (own S ∙ count_own f w.slots S is_s tests_s) agreed),
        eq-eqb _ _ (own N ∙ count_own f w.slots N is_n tests_n),
        eq-eqb _ _ (sum_agree (tables_at (file_of f) (figures_of f)) (records_of f) agree ∙ sum_own f w.slots),
        goes,
      )

  -- with the content's figures
  pub accepted : read_file (file_of f) ≡ Ok (figures_of f)
  accepted = accepted_with (file_of f) (figures_of f) (sym figures_back) trailer_right tables_right figures_right

  -- and with its tables
  pub tables_back : tables_part (file_of f) ≡ tables_of f
  unfolding tables_part file_of
  tables_back =
      let end : length (file_of f) - 32 ≡ length (tables_of f) =
      omega (arith, length-append (tables_of f) (row (trailer_row (figures_of f))), length_row (trailer_row (figures_of f))) in
      ap (λ v. part_of v (file_of f)) accepted ∙ take_at (tables_of f) (row (trailer_row (figures_of f))) (length (file_of f) - 32)
      (sym end)
