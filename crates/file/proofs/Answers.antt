-- The reader's answer from the outcomes of its tests.
use Rattle.std.specs.Prelude.{Ok, Err}
use mathlib.Core.Path.{◌≡◌, refl, sym, ap, ◌∙◌}
use mathlib.Core.Bool.{Bool, true, false, ◌&&◌}
use mathlib.Core.List.{List}
use Prim.Native.Nat.{ℕ, ◌+◌, ◌/◌, ◌<◌, ◌≤◌}
use native.Mathlib.Omega.{arith}
use borrow.Author.Tests.{eqb-true, leb-true, lt-leb}
use lib.ListN.{length}
use Rattle.base.proofs.Logic.{passed}
use Rattle.calendar.specs.Calendar.{day_count}
use Rattle.rules.specs.Numbers.{day_minutes}
use Rattle.base.specs.declared.Refusal.TheVariants.{WrongFrame, WrongContent}
use Rattle.file.specs.declared.Figures.{Figures}
use Rattle.file.specs.Reader.{head_field_tests, trailer_tests, figures, trailer_ok, tables_ok, figures_ok, verdict, read_file}
use Rattle.file.specs.Inner.Reading.{Ready, Tabled}
use Rattle.file.proofs.Head.{interval_is, interval_pos, per_day_le, days_le, slots_ge}

pub ready : (bs : List ℕ) (g : Figures) → trailer_ok bs g ≡ true → Ready bs g
unfolding trailer_ok
ready bs g ok = record {
  head = passed (trailer_tests bs g) ok 1;
  long = eqb-true _ _ (passed (trailer_tests bs g) ok 4);
}

module _ (bs : List ℕ) (g : Figures) (e : g ≡ figures bs) where
  answer : read_file bs ≡ verdict (trailer_ok bs g) (tables_ok bs g && figures_ok bs g) g
  unfolding read_file
  answer = ap (λ (f : Figures). verdict (trailer_ok bs f) (tables_ok bs f && figures_ok bs f) f) (sym e)

  pub refused_8 : trailer_ok bs g ≡ false → read_file bs ≡ Err WrongFrame
  refused_8 p = answer ∙ rw p

  pub refused_tables : trailer_ok bs g ≡ true → tables_ok bs g ≡ false → read_file bs ≡ Err WrongContent
  refused_tables p q = answer ∙ rw (p, q)

  pub refused_figures : trailer_ok bs g ≡ true → tables_ok bs g ≡ true → figures_ok bs g ≡ false → read_file bs ≡ Err WrongContent
  refused_figures p q r = answer ∙ rw (p, q, r)

  pub accepted_with : trailer_ok bs g ≡ true → tables_ok bs g ≡ true → figures_ok bs g ≡ true → read_file bs ≡ Ok g
  accepted_with p q r = answer ∙ rw (p, q, r)

pub refused_short : (bs : List ℕ) → length bs < 32 → read_file bs ≡ Err WrongFrame
unfolding trailer_ok
refused_short bs l = refused_8 bs (figures bs) refl (rw (lt-leb 32 (length bs) l))

-- what an accepted file passed
pub record Passed (bs : List ℕ) (g : Figures) : Type 0 where
  pub trailer : trailer_ok bs g ≡ true
  pub tables : tables_ok bs g ≡ true
  pub figures : figures_ok bs g ≡ true

taken : (a b c : Bool) (g h : Figures) → verdict a (b && c) g ≡ Ok h → (a ≡ true) × (b ≡ true) × (c ≡ true) × (g ≡ h)
taken true true true g h e = (refl, refl, refl, cc)
taken true true false g h e = (refl, refl, cc, cc)
taken true false c g h e = (refl, cc, cc, cc)
taken false b c g h e = (cc, cc, cc, cc)

-- an accepted file passed every test, and its figures are given
pub tests_passed : (bs : List ℕ) (g : Figures) → read_file bs ≡ Ok g → Passed bs g × (figures bs ≡ g)
unfolding read_file
tests_passed bs g e =
    let f = figures bs in
    let p = taken (trailer_ok bs f) (tables_ok bs f) (figures_ok bs f) f g e in
    (rw (← p.3) (record { trailer = p.0; tables = p.1; figures = p.2 }), p.3)

-- ---- An accepted file

module _ (bs : List ℕ) (g : Figures) (e : read_file bs ≡ Ok g) where
  is_ready : Ready bs g
  is_ready = ready bs g (tests_passed bs g e).0.trailer

  pub figures_are : figures bs ≡ g
  figures_are = (tests_passed bs g e).1

  pub some_interval : 0 < g.interval
  some_interval = interval_pos g.first g.days g.interval is_ready.head

  pub tabled : Tabled bs (day_minutes / g.interval) g.days
  tabled = record {
    long = omega (arith, is_ready.long);
    some =
        interval_is g.first g.days g.interval is_ready.head (λ x. 1 ≤ day_minutes / x) (omega arith) (omega arith) (omega arith);
    day = per_day_le g.first g.days g.interval is_ready.head;
    few = days_le g.first g.days g.interval is_ready.head;
  }

  -- its days are not after 2099-12-31
  pub dates_le : g.first + g.days ≤ day_count
  dates_le = leb-true _ _ (passed (head_field_tests g.first g.days g.interval) is_ready.head 3)

  pub first_lt : g.first < day_count
  first_lt =
      let some : 1 ≤ g.days = leb-true _ _ (passed (head_field_tests g.first g.days g.interval) is_ready.head 1) in
      omega (arith, dates_le)

  -- it has 48 slots at least, and a trailer
  pub long_enough : 320 ≤ length bs
  long_enough = omega (arith, is_ready.long, slots_ge g.first g.days g.interval is_ready.head)
