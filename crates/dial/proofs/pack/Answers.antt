-- `pack`: the first broken rule is given; else the four bytes are those of the form.
use mathlib.Core.Path.{◌≡◌, refl, ◌∙◌}
use Prim.Native.Nat.{◌≤◌, ◌<◌}
use native.Mathlib.Omega.{arith}
use borrow.Author.Tests.{eq-eqb, ne_eqb, lt-ltb, le-ltb}
use lib.ListN.{length}
use Rattle.dial.specs.Dial.{pack_answer, pack_after}
use Rattle.dial.proofs.PackedForm.{form_bytes, filled}
use Rattle.dial.proofs.pack.Goals as goal

pub returns-then-bytes-ne4 : goal.returns-then-bytes-ne4
unfolding pack_answer pack_after
returns-then-bytes-ne4 c =
    let other : length c.args.bytes.now ≡ 4 → ⊥ = λ e. omega arith in
    rw (ne_eqb _ _ other) (refl, refl)

pub returns-then-reading-gt-EIGHT_DIGITS : goal.returns-then-reading-gt-EIGHT_DIGITS
unfolding pack_answer pack_after
returns-then-reading-gt-EIGHT_DIGITS c =
    let a = c.args in
    let four : length a.bytes.now ≡ 4 = omega arith in
    let over : 99_999_999 < a.reading = omega arith in
    rw (eq-eqb _ _ four, lt-ltb _ _ over) (refl, refl)

pub returns : goal.returns
unfolding pack_answer pack_after
returns c =
    let a = c.args in
    let four : length a.bytes.now ≡ 4 = omega arith in
    let within : a.reading ≤ 99_999_999 = omega arith in
    rw (eq-eqb _ _ four, le-ltb _ _ within) (
      refl,
      filled a.bytes.now four
          ∙ form_bytes a.reading c.two_digits.ensures c.two_digits-2.ensures
          c.two_digits-3.ensures c.two_digits-4.ensures,
    )
