-- What holds of the conversions together: every reading has one form, `unpack` accepts exactly the forms, and both ways lead back.
use Rattle.base.specs.declared.Refusal.{Refusal}
use Rattle.std.specs.Prelude.{Result, Ok, Err}
use mathlib.Core.Bool.{false}
use mathlib.Core.List.{List}
use mathlib.Core.Path.{◌≡◌, refl, sym, ap, ◌∙◌}
use Prim.Native.Nat.{ℕ, ◌≤◌, ◌<◌, ◌^◌}
use native.Mathlib.Omega.{arith}
use borrow.Author.Tests.{eqb-true, eq-eqb, ltb-false, le-ltb, not-false}
use lib.ListN.{length}
use Rattle.base.proofs.Refusals.{unless_answered}
use Rattle.dial.specs.Dial.{form, above_nine, reading_of, pack_rules, pack_answer, bytes_after, pack_after, unpack_rules, unpack_answer}
use Rattle.dial.specs.Claim.{OneForm, AcceptsExactly, PackedThenUnpacked, UnpackedThenPacked}
use Rattle.dial.proofs.PackedForm.{form_packed, packed_digits, reading_packed, reading_low, packed_reading}

-- the form of a reading is read as that reading
form_read : (reading : ℕ) → reading ≤ 99_999_999 → unpack_answer (form reading) ≡ Ok reading
unfolding unpack_answer form
form_read reading h =
    let digits : above_nine (form reading) ≡ false = ap above_nine (form_packed reading) ∙ packed_digits 4 reading in
    let back : reading_of (form reading) ≡ reading = ap reading_of (form_packed reading) ∙ reading_packed 4 reading (omega arith) in
    rw (digits, back)

-- what is read as a reading is the form of that reading
read_form : (bytes : List ℕ) (reading : ℕ) → unpack_answer bytes ≡ Ok reading → (reading ≤ 99_999_999) ×
    (form reading ≡ bytes)
unfolding unpack_answer
read_form bytes reading e =
    let (same, kept) =
    unless_answered Err (λ a. a ≡ Ok reading) (λ n r. let z : ◌≡◌ {A = ℕ} 0 1 = cc in omega arith)
    (unpack_rules bytes) _ e in
    let digits : above_nine bytes ≡ false = kept 1 in
    let long : length bytes ≡ 4 = eqb-true _ _ (not-false _ (kept 0)) in
    let read : reading_of bytes ≡ reading = cc in
    let low : reading < 100 ^ 4 = rw (read, long) at (reading_low bytes digits) in
    let back = rw (read, long) at (packed_reading bytes digits) in
    (omega arith, form_packed reading ∙ back)

-- `unpack` accepts exactly the forms of readings, each as its reading
pub accepts_exactly : AcceptsExactly
accepts_exactly bytes reading = (
  read_form bytes reading,
  λ f. ap unpack_answer (sym f.1) ∙ form_read reading f.0,
)

-- every reading from 0 to 99,999,999 has one form
pub one_form : OneForm
one_form reading h bytes = (
  λ e. sym (read_form bytes reading e).1,
  λ e. ap unpack_answer e ∙ form_read reading h,
)

-- and no two readings share theirs
pub one_reading : (m n : ℕ) → m ≤ 99_999_999 → n ≤ 99_999_999 → form m ≡ form n → m ≡ n
one_reading m n h l e =
    let same : Ok m ≡ Ok n = sym (form_read m h) ∙ ap unpack_answer e ∙ form_read n l in
    cc

-- there and back from a reading
pub packed_then_unpacked : PackedThenUnpacked
unfolding pack_answer pack_after
packed_then_unpacked reading bytes e =
    let (_, kept) =
    unless_answered Err (λ a. a ≡ Ok tt) (λ n r. let z : ◌≡◌ {A = ℕ} 0 1 = cc in omega arith)
    (pack_rules reading bytes) _ e in
    ap (λ (a : (Result (Unit {0}) Refusal)). unpack_answer (bytes_after a reading bytes)) e ∙ form_read reading (ltb-false _ _ (kept 1))

-- there and back from bytes, into any four
pub unpacked_then_packed : UnpackedThenPacked
unfolding pack_answer pack_after
unpacked_then_packed bytes reading e held l =
    let (low, back) = read_form bytes reading e in
    rw (eq-eqb _ _ l, le-ltb 99_999_999 reading low) (refl, back)
