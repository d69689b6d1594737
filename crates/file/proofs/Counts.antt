-- The forms, the counts and the sum of the slots, one slot more at a time.
use mathlib.Core.Bool.{Bool, true, false, cond, ◌&&◌, ◌||◌, and-true, and-false}
use mathlib.Core.Logic.{⊎_elim}
use mathlib.Core.Path.{◌≡◌, refl, sym, ap, ◌∙◌}
use mathlib.Core.List.{List}
use mir.Val.{bool_byte}
use Prim.Native.Nat.{ℕ, max, ◌+◌, ◌*◌, ◌^◌, ◌≤◌, ◌<◌}
use native.Mathlib.Omega.{arith}
use borrow.Author.Count.{below_more}
use borrow.Author.Tests.{eqb-true, eq-eqb, ne_eqb, eqb-false, leb-true, le-leb}
use lib.Dec.{eqb, leb}
use Rattle.base.specs.Numbers.{eight_digits}
use Rattle.base.specs.Lists.{sum, all, every}
use Rattle.base.proofs.Logic.{either, bit_le, and_parts, both, together}
use Rattle.base.proofs.Sums.{summed_on, all_at, at_all}
use Rattle.rules.specs.declared.Quality.{Quality}
use Rattle.rules.specs.declared.Quality.TheVariants.{A, S, F, N}
use Rattle.rules.specs.Spans.{is_scaled}
use Rattle.file.specs.declared.Figures.{Figures}
use Rattle.file.specs.declared.counting.Counted.{Counted}
use Rattle.file.specs.declared.slots.SlotRecord.{SlotRecord}
use Rattle.file.specs.Layout.{letter}
use Rattle.file.specs.Reader.{of_quality, slot_at, record_ok, file_slots, figures_ok}
use Rattle.file.specs.Inner.Reading.{is_plain, IsRest, one, Met, met_by, count_in, counted_with, counted_in, count_tests, Within}
use Rattle.file.proofs.Records.{form_a, form_s, form_n, form_f, form_none}

-- ---- Tests

-- letter and method as one number
pub form_one : (l m k n : ℕ) → l < 256 → k < 256 → eqb (l + 256 * m) (k + 256 * n) ≡ (eqb l k && eqb m n)
form_one l m k n a b =
    together (eqb (l + 256 * m) (k + 256 * n)) (eqb l k && eqb m n)
    (λ e.
    let same = eqb-true (l + 256 * m) (k + 256 * n) e in
    both (eqb l k) (eqb m n) (eq-eqb l k (omega (arith, same))) (eq-eqb m n (omega (arith, same))))
    (λ e.
    let p = and_parts (eqb l k) (eqb m n) e in
    eq-eqb (l + 256 * m) (k + 256 * n) (omega (arith, eqb-true l k p.0, eqb-true m n p.1)))

-- the higher of two is below a limit when both are
pub high_both : (a b m : ℕ) → leb (max a b) m ≡ (leb a m && leb b m)
high_both a b m =
    together (leb (max a b) m) (leb a m && leb b m)
    (λ e.
    let top = leb-true (max a b) m e in
    both (leb a m) (leb b m) (le-leb a m (omega (arith, top))) (le-leb b m (omega (arith, top))))
    (λ e.
    let p = and_parts (leb a m) (leb b m) e in
    le-leb (max a b) m (omega (arith, leb-true a m p.0, leb-true b m p.1)))

-- a test as a number
pub as_number : (b : Bool) → bool_byte b ≡ cond b 1 0
as_number true = refl
as_number false = refl

-- a further test beside a limit, and one with a limit of its own
beside : (f x h : Bool) → ((f && x) && h) ≡ ((f && h) && x)
beside false x h = refl
beside true true h = sym (and-true h)
beside true false h = sym (and-false h)

beside_two : (f x h v : Bool) → ((f && x) && (h && v)) ≡ ((f && h) && (x && v))
beside_two false x h v = refl
beside_two true true h v = refl
beside_two true false h v = sym (and-false h)

-- ---- Counts

one_le : (q : Quality) (r : SlotRecord) → one q r ≤ 1
one_le q r = bit_le (of_quality q r)

-- at most k slots, and one more
pub within_more : (k l : ℕ) (m : Met) → Within k m → k ≤ l → Within l m
within_more k l m h le = record {
  actual = omega (arith, h.actual);
  substituted = omega (arith, h.substituted);
  agreed = omega (arith, h.agreed);
  none = omega (arith, h.none);
  sum = omega (arith, h.sum);
}

pub within_with : (k : ℕ) (m : Met) (r : SlotRecord) → Within k m → r.value < 2 ^ 32 → Within (k + 1) (counted_with m r)
within_with k m r h l = record {
  actual = omega (arith, h.actual, one_le A r);
  substituted = omega (arith, h.substituted, one_le S r, one_le F r);
  agreed = omega (arith, h.agreed, one_le F r);
  none = omega (arith, h.none, one_le N r);
  sum = omega (arith, h.sum);
}

-- what no slots have, and what one slot more makes of it
module _ (bs : List ℕ) where
  pub counted_empty : record { formed = true; actual = 0; substituted = 0; agreed = 0; none = 0; sum = 0 } ≡ counted_in bs 0
  unfolding counted_in sum all
  counted_empty = refl

  count_on : (q : Quality) (i : ℕ) → count_in bs q i + one q (slot_at bs i) ≡ count_in bs q (i + 1)
  count_on q i = summed_on (λ x. one q (slot_at bs x)) i _ _ refl refl

  abbrev formed : ℕ → Bool
  formed i = record_ok (slot_at bs i)

  formed_on : (i : ℕ) → (all formed 0 i && formed i) ≡ all formed 0 (i + 1)
  formed_on i =
      together (all formed 0 i && formed i) (all formed 0 (i + 1))
      (λ e.
      let here = and_parts (all formed 0 i) (formed i) e in
      at_all formed (i + 1) (below_more (λ x. formed x ≡ true) i (all_at formed i here.0) here.1))
      (λ e.
      let each = all_at formed (i + 1) e in
      both (all formed 0 i) (formed i) (at_all formed i (λ x l. each x (omega arith))) (each i (omega arith)))

  pub counted_on : (i : ℕ) → counted_with (counted_in bs i) (slot_at bs i) ≡ counted_in bs (i + 1)
  unfolding counted_in
  counted_on i =
      let r = slot_at bs i in
      let filled : count_in bs S i + count_in bs F i + (one S r + one F r) ≡ count_in bs S (i + 1) + count_in bs F (i + 1) =
      omega (arith, count_on S i, count_on F i) in
      λ k. record {
        formed = formed_on i k;
        actual = count_on A i k;
        substituted = filled k;
        agreed = count_on F i k;
        none = count_on N i k;
        sum = summed_on (λ x. (slot_at bs x).value) i _ _ refl refl k;
      }

-- ---- A slot by its letter

-- a record counts so often as A, S, F and N
record Ones (r : SlotRecord) (a s f n : ℕ) : Type 0 where
  actual : one A r ≡ a
  substituted : one S r ≡ s
  agreed : one F r ≡ f
  none : one N r ≡ n

module _ (r : SlotRecord) where
  -- of the letter l
  ones : (l : ℕ) → r.letter ≡ l → Ones r (cond (eqb l 65) 1 0) (cond (eqb l 83) 1 0) (cond (eqb l 70) 1 0) (cond (eqb l 78) 1 0)
  ones l e = record { actual = rw e; substituted = rw e; agreed = rw e; none = rw e }

  counts_none : (q : Quality) → (r.letter ≡ letter q → ⊥) → one q r ≡ 0
  counts_none q differs = rw (ne_eqb r.letter (letter q) differs)

  -- not plain, and of no letter but A
  rest_form : IsRest r → record_ok r ≡ (eqb r.letter 65 && eqb r.method 1 && eqb r.value 0)
  rest_form rest =
      ⊎_elim
      (λ a. form_a r (eqb-true _ _ a) ∙ rw (rw a at rest.plain, a))
      (λ a. form_none r (eqb-false _ _ a) rest.substituted rest.none rest.agreed ∙ rw a)
      (either (eqb r.letter 65))

  plain_form : is_plain r ≡ true → (r.letter ≡ 65) × (record_ok r ≡ true)
  plain_form plain =
      let p = and_parts (of_quality A r) (eqb r.method 0) plain in
      let a = eqb-true r.letter 65 p.0 in
      (a, form_a r a ∙ rw p.1)

-- what is met with one slot more, for each way of the code
module _ (c : Counted) (r : SlotRecord) where
  -- these counts, and the sum with r
  abbrev more : Bool → ℕ → ℕ → ℕ → ℕ → ℕ → Counted
  more f h a s g n = record { formed = f; highest = h; actual = a; substituted = s; agreed = g; none = n; sum = c.sum + r.value }

  met_by_lem : (f : Bool) (h a s g n : ℕ) → (f && leb h eight_digits) ≡ ((met_by c).formed && record_ok r)
      → a ≡ c.actual + one A r → s ≡ c.substituted + (one S r + one F r) → g ≡ c.agreed + one F r → n ≡ c.none + one N r
      → met_by (more f h a s g n) ≡ counted_with (met_by c) r
  met_by_lem f h a s g n ef ea es eg en = λ k. record {
    formed = ef k;
    actual = ea k;
    substituted = es k;
    agreed = eg k;
    none = en k;
    sum = c.sum + r.value;
  }

  -- a form without a limit
  formed_with : (form : Bool) → record_ok r ≡ form → (f : Bool) → f ≡ (c.formed && form)
      → (f && leb c.highest eight_digits) ≡ ((met_by c).formed && record_ok r)
  formed_with form o f e = rw (e, o) (beside c.formed form (leb c.highest eight_digits))

  pub met_plain : is_plain r ≡ true
      → met_by (more c.formed c.highest (c.actual + 1) c.substituted c.agreed c.none) ≡ counted_with (met_by c) r
  met_plain plain =
      let p = plain_form r plain in
      let o = ones r 65 p.0 in
      met_by_lem c.formed c.highest _ _ _ _ (rw (p.1, and-true)) (omega arith) (omega arith) (omega arith) (omega arith)

  pub met_none : r.letter ≡ 78 → (f : Bool) → f ≡ (c.formed && (eqb r.letter 78 && eqb r.method 0 && eqb r.value 0))
      → met_by (more f c.highest c.actual c.substituted c.agreed (c.none + 1)) ≡ counted_with (met_by c) r
  met_none l f e =
      let o = ones r 78 l in
      met_by_lem f c.highest _ _ _ _ (formed_with _ (form_n r l ∙ rw l) f e) (omega arith) (omega arith) (omega arith) (omega arith)

  pub met_substituted : r.letter ≡ 83 → (f : Bool) → f ≡ (c.formed && (eqb r.method 2 || (eqb r.method 3 || is_scaled r.method)))
      → met_by (more f c.highest c.actual (c.substituted + 1) c.agreed c.none) ≡ counted_with (met_by c) r
  met_substituted l f e =
      let o = ones r 83 l in
      met_by_lem f c.highest _ _ _ _ (formed_with _ (form_s r l) f e) (omega arith) (omega arith) (omega arith) (omega arith)

  pub met_agreed : r.letter ≡ 70 → (f : Bool) → f ≡ (c.formed && eqb r.method 5)
      → (h : ℕ) → leb h eight_digits ≡ (leb c.highest eight_digits && leb r.value eight_digits)
      → met_by (more f h c.actual (c.substituted + 1) (c.agreed + 1) c.none) ≡ counted_with (met_by c) r
  met_agreed l f e h high =
      let o = ones r 70 l in
      let form : (f && leb h eight_digits) ≡ ((met_by c).formed && record_ok r) =
      rw (e, high, form_f r l) (beside_two c.formed (eqb r.method 5) (leb c.highest eight_digits) (leb r.value eight_digits)) in
      met_by_lem f h _ _ _ _ form (omega arith) (omega arith) (omega arith) (omega arith)

  pub met_rest : IsRest r → (f : Bool) → f ≡ (c.formed && (eqb r.letter 65 && eqb r.method 1 && eqb r.value 0))
      → (i : ℕ) → i ≡ one A r
      → met_by (more f c.highest (c.actual + i) c.substituted c.agreed c.none) ≡ counted_with (met_by c) r
  met_rest rest f e i same =
      let s = counts_none r S rest.substituted in
      let g = counts_none r F rest.agreed in
      let n = counts_none r N rest.none in
      met_by_lem f c.highest _ _ _ _ (formed_with _ (rest_form r rest) f e) (omega arith) (omega arith) (omega arith) (omega arith)

-- ---- The figures

pub figures_counted : (bs : List ℕ) (g : Figures) (m : Met) → m ≡ counted_in bs (file_slots g) → every (count_tests m g) ≡ figures_ok bs g
unfolding figures_ok counted_in
figures_counted bs g m e = ap (λ x. every (count_tests x g)) e
