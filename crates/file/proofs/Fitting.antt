-- The numbers of a well-formed content fit their fields.
use mathlib.Core.Path.{◌≡◌, refl}
use mathlib.Core.Bool.{Bool, true, false}
use Prim.Native.Nat.{ℕ, zero, suc, ◌+◌, ◌*◌, ◌/◌, ◌^◌, ◌≤◌, ◌<◌}
use native.Mathlib.Omega.{arith}
use lib.ListN.{length}
use borrow.Author.Tests.{leb-true}
use Rattle.base.specs.Lists.{all}
use Rattle.base.proofs.Logic.{passed}
use Rattle.base.proofs.Sums.{all_at}
use Rattle.rules.specs.declared.Outcome.{Outcome}
use Rattle.rules.specs.declared.Span.{Span}
use Rattle.file.specs.Layout.{Content, ranged}
use Rattle.file.specs.Reader.{Tables, head_field_tests, table_tests, span_tests, span_ok}
use Rattle.file.specs.Contents.{WellFormed, slot, span, records_of}
use Rattle.file.proofs.Records.{record_tells}
use Rattle.file.proofs.Layouts.{layout_lt}
use Rattle.file.proofs.Head.{days_le, interval_is}
use Rattle.file.proofs.Inside.{ordered, follow}

-- ---- Numbers that fit their fields

pub record SlotFits (o : Outcome) : Type 0 where
  pub value : o.value < 2 ^ 32
  pub method : o.method < 2 ^ 8

-- a record that is not ranged has one advance
pub record SpanFits (r : Bool) (s : Span) : Type 0 where
  pub first : s.first < 2 ^ 16
  pub last : s.last < 2 ^ 16
  pub lowest : s.lowest < 2 ^ 32
  pub highest : s.highest < 2 ^ 32
  pub state : s.state < 2 ^ 8
  pub exact : r ≡ false → s.lowest ≡ s.highest

-- there are N slots
pub record Fitting (f : Content) : Type 0 where
  pub layout : f.layout < 2 ^ 8
  pub first : f.first < 2 ^ 16
  pub days : f.days < 2 ^ 16
  pub interval : f.interval < 2 ^ 8
  pub slots : length f.slots ≡ 1440 / f.interval * f.days
  pub spans : length f.spans < 2 ^ 16
  pub each_slot : (i : ℕ) → i < length f.slots → SlotFits (slot f i)
  pub each_span : (j : ℕ) → j < length f.spans → SpanFits (ranged f.layout) (span f j)

-- ---- Those of a well-formed content

-- span j ends past boundary j, since each takes a day at least
past : (t : Tables) → all (span_ok t) 0 t.spans ≡ true → (j : ℕ) → j < t.spans → j < (t.span j).last
past t ok zero l =
    omega (arith, ordered t 0 (all_at (span_ok t) t.spans ok 0 l))
past t ok (suc j) l =
    let here = all_at (span_ok t) t.spans ok (suc j) l in
    let before = past t ok j (omega arith) in
    omega (arith, follow t ok j l, ordered t (suc j) here)

-- no more spans than days
spans_le : (t : Tables) → all (span_ok t) 0 t.spans ≡ true → t.spans ≤ t.days
spans_le t ok = go t.spans refl
  where
    go : (m : ℕ) → t.spans ≡ m → m ≤ t.days
    go zero e = omega arith
    go (suc m) e =
        let l : m < t.spans = omega arith in
        omega (arith, past t ok m l, ordered t m (all_at (span_ok t) t.spans ok m l))

module _ (f : Content) (w : WellFormed f) where
  abbrev t : Tables
  t = records_of f

  few : f.days ≤ 400
  few = days_le f.first f.days f.interval w.head

  span_fits : (j : ℕ) → j < length f.spans → span_ok t j ≡ true → SpanFits (ranged f.layout) (span f j)
  unfolding span_ok
  span_fits j l ok =
      let r : (span f j).lowest ≤ (span f j).highest = leb-true _ _ (passed (span_tests t j) ok 3) in
      let q : (span f j).highest ≤ 99_999_999 = leb-true _ _ (passed (span_tests t j) ok 4) in
      let s : (span f j).state ≤ 3 = leb-true _ _ (passed (span_tests t j) ok 5) in
      record {
        first = omega (arith, few, ordered t j ok);
        last = omega (arith, few, ordered t j ok);
        lowest = omega arith;
        highest = omega arith;
        state = omega arith;
        exact = λ e. w.exact e j l;
      }

  pub fitting : Fitting f
  fitting =
      let spans_ok = passed (table_tests t) w.tables 1 in
      let records_ok = passed (table_tests t) w.tables 0 in
      let until : f.first + f.days ≤ 36_525 = leb-true _ _ (passed (head_field_tests f.first f.days f.interval) w.head 3) in
      record {
        layout = layout_lt f.layout w.known;
        first = omega arith;
        days = omega (arith, few);
        interval = interval_is f.first f.days f.interval w.head (λ x. x < 2 ^ 8) (omega arith) (omega arith) (omega arith);
        slots = w.slots;
        spans = omega (arith, few, spans_le t spans_ok);
        each_slot =
            λ i l. record { value = w.values i l; method = (record_tells (t.slot i) (all_at _ _ records_ok i (rw (← w.slots) l))).1 };
        each_span = λ j l. span_fits j l (all_at (span_ok t) t.spans spans_ok j l);
      }
