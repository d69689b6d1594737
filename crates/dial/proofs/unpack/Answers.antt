-- `unpack`: one byte after the other is looked at; where no half is above 9, the reading is that of the four bytes.
use mathlib.Core.Bool.{true, false}
use mathlib.Core.List.{List, [], ◌∷◌}
use mathlib.Core.Path.{◌≡◌, sym, ◌∙◌}
use Prim.Native.Nat.{ℕ, ◌≤◌}
use Rattle.std.specs.Prelude.{Err}
use Rattle.base.specs.declared.Refusal.TheVariants.{WrongLength}
use native.Mathlib.Omega.{arith}
use borrow.Author.Rules.{rules}
use borrow.Author.Tests.{eq-eqb, ne_eqb}
use lib.ListN.{length, get_or, drop_of_length-le}
use Rattle.dial.specs.Dial.{above_nine, unpack_answer}
use Rattle.dial.proofs.PackedForm.{above_next, reading_made}
use Rattle.dial.proofs.unpack.Goals as goal

not_four_bytes : (bs : List ℕ) → (length bs ≡ 4 → ⊥) → Err WrongLength ≡ unpack_answer bs
unfolding unpack_answer
not_four_bytes bs other = rw (ne_eqb _ _ other)

pub returns-in_default : goal.returns-in_default
returns-in_default c = not_four_bytes _ (λ e. omega (arith, c.in_default.len_below))

pub returns-in_default-2 : goal.returns-in_default-2
returns-in_default-2 c = not_four_bytes _ (λ e. omega arith)

pub returns-then-above_nine : goal.returns-then-above_nine
unfolding unpack_answer
returns-then-above_nine c =
    let bs = c.args.bytes.now in
    let four : length bs ≡ 4 = omega arith in
    let found : above_nine (get_or bs c.loop-byte.byte-index 0 ∷ []) ≡ true = sym c.above_nine.ensures ∙ c.if-above_nine.true in
    let above : above_nine bs ≡ true = c.loop-byte.invariant ∙ above_next bs c.loop-byte.byte-index (search rules) ∙ rw found in
    rw (eq-eqb _ _ four, above)

pub loop-byte-preserved : goal.loop-byte-preserved
loop-byte-preserved c =
    let bs = c.args.bytes.now in
    let low : above_nine (get_or bs c.loop-byte.byte-index 0 ∷ []) ≡ false = sym c.above_nine.ensures ∙ c.if-above_nine.false in
    c.loop-byte.invariant ∙ above_next bs c.loop-byte.byte-index (search rules) ∙ rw low

pub returns : goal.returns
unfolding unpack_answer above_nine
returns c =
    let bs = c.args.bytes.now in
    let four : length bs ≡ 4 = omega arith in
    let past : length bs ≤ c.loop-byte.byte-index = search rules in
    let digits : above_nine bs ≡ false = c.loop-byte.invariant ∙ rw (drop_of_length-le bs past) in
    rw (
      eq-eqb _ _ four,
      digits,
      reading_made bs _ _ _ _ four c.value.ensures.0 c.value-2.ensures.0
          c.value-3.ensures.0
          c.value-4.ensures.0,
    )
