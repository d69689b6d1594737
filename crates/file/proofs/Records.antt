-- The forms of a slot record, by its letter.
use mathlib.Core.Path.{◌≡◌, refl, sym, ap, ◌∙◌}
use mathlib.Core.Bool.{Bool, true, false, ◌&&◌, ◌||◌, or-false}
use Prim.Native.Nat.{ℕ, ◌<◌}
use native.Mathlib.Omega.{arith}
use borrow.Author.Tests.{eqb-true, ne_eqb}
use lib.Dec.{lit<, eqb, leb}
use Rattle.base.proofs.Logic.{and_parts, one_of_lem}
use Rattle.rules.specs.Spans.{is_scaled}
use Rattle.rules.specs.declared.Quality.{Quality}
use Rattle.rules.specs.declared.Quality.TheVariants.{A, S, F, N}
use Rattle.file.specs.declared.slots.SlotRecord.{SlotRecord}
use Rattle.file.specs.Layout.{letter}
use Rattle.file.specs.Reader.{of_quality, is_form, forms, record_ok}
use Rattle.file.specs.Contents.{quality_of}

-- ---- Qualities and their letters

-- what holds of each quality
pub each : (P : Quality → Type 0) → P A → P S → P F → P N → (q : Quality) → P q
each P a s f n A = a
each P a s f n S = s
each P a s f n F = f
each P a s f n N = n

pub quality_back : (q : Quality) → quality_of (letter q) ≡ q
quality_back = each (λ q. quality_of (letter q) ≡ q) refl refl refl refl

-- a letter is a byte
pub letter_lt : (q : Quality) → letter q < 256
letter_lt = each (λ q. letter q < 256) (lit< tt) (lit< tt) (lit< tt) (lit< tt)

-- ---- What the code tests

pub form_a : (r : SlotRecord) → r.letter ≡ 65 → record_ok r ≡ (eqb r.method 0 || (eqb r.method 1 && eqb r.value 0))
unfolding record_ok
form_a r e = rw (e, or-false)

pub form_s : (r : SlotRecord) → r.letter ≡ 83 → record_ok r ≡ (eqb r.method 2 || (eqb r.method 3 || is_scaled r.method))
unfolding record_ok
form_s r e = rw (e, or-false)

pub form_n : (r : SlotRecord) → r.letter ≡ 78 → record_ok r ≡ (eqb r.method 0 && eqb r.value 0)
unfolding record_ok
form_n r e = rw (e, or-false)

pub form_f : (r : SlotRecord) → r.letter ≡ 70 → record_ok r ≡ (eqb r.method 5 && leb r.value 99_999_999)
unfolding record_ok
form_f r e = rw (e, or-false)

pub form_none : (r : SlotRecord) → (r.letter ≡ 65 → ⊥) → (r.letter ≡ 83 → ⊥) → (r.letter ≡ 78 → ⊥) → (r.letter ≡ 70 → ⊥)
    → record_ok r ≡ false
unfolding record_ok
form_none r a s n f = rw (ne_eqb _ _ a, ne_eqb _ _ s, ne_eqb _ _ n, ne_eqb _ _ f)

-- ---- What a record that passes has

module _ (r : SlotRecord) where
  -- the letter of a quality, and a method that fits a byte
  abbrev Told : Type 0
  Told = (letter (quality_of r.letter) ≡ r.letter) × (r.method < 256)

  form_tells : (q : Quality) (m : ℕ) → m < 256 → is_form q m r ≡ true → Told
  form_tells q m l e =
      let p = and_parts (of_quality q r) (eqb r.method m) e in
      let is : r.letter ≡ letter q = eqb-true _ _ p.0 in
      let so : r.method ≡ m = eqb-true _ _ p.1 in
      (ap (λ (x : ℕ). letter (quality_of x)) is ∙ ap letter (quality_back q) ∙ sym is, omega arith)

  -- a form whose value is tested
  valued_tells : (q : Quality) (m : ℕ) (test : Bool) → m < 256 → (is_form q m r && test) ≡ true → Told
  valued_tells q m test l e = form_tells q m l (and_parts (is_form q m r) test e).0

  pub record_tells : record_ok r ≡ true → Told
  unfolding record_ok
  record_tells e =
      one_of_lem Told (forms r) (
        form_tells A 0 (lit< tt),
        (
          form_tells S 2 (lit< tt),
          (
            form_tells S 3 (lit< tt),
            (
              form_tells S 18 (lit< tt),
              (
                form_tells S 19 (lit< tt),
                (
                  valued_tells A 1 (eqb r.value 0) (lit< tt),
                  (valued_tells N 0 (eqb r.value 0) (lit< tt), (valued_tells F 5 (leb r.value 99_999_999) (lit< tt), tt)),
                ),
              ),
            ),
          ),
        ),
      ) e
