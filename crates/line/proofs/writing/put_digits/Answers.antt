-- `writing::put_digits` meets its contract.
use borrow.Author.Rules.{rules}
use mathlib.Core.Path.{◌≡◌, refl, sym, ap, ◌∙◌}
use Prim.Native.Nat.{◌+◌}
use native.Mathlib.Omega.{arith}
use lib.ListN.{length}
use Rattle.line.specs.Line.{digits}
use Rattle.line.proofs.Digits.{length_digits}
use Rattle.line.specs.Inner.Writing.{capped, stored}
use Rattle.line.proofs.Putting.{capped_min, length_stored, digits_less, digits_none}
use Rattle.line.proofs.writing.put_digits.Goals as goal

pub loop-j-init : goal.loop-j-init
loop-j-init c = refl

pub loop-j-preserved : goal.loop-j-preserved
loop-j-preserved c =
    digits_less _ c.loop-j.out _ c.args.at c.loop-j.j c.loop-j.rest (search rules) c.loop-j.invariant c.put_byte.ensures

pub shape_of-out : goal.shape_of-out
shape_of-out c =
    let l = c.loop-j in
    sym (length_stored l.out c.args.at (digits l.j l.rest)) ∙ ap length l.invariant ∙ length_stored _ _ _

pub returns : goal.returns
returns c =
    let a = c.args in
    let l = c.loop-j in
    let done : l.j ≡ 0 = omega arith in
    record {
      fits = search rules;
      next = c.saturating_add.ensures ∙ capped_min _ ∙ ap (λ n. capped (a.at + n)) (sym (length_digits a.width a.n));
      has =
          sym (digits_none l.out a.at l.rest) ∙ ap (λ j. stored l.out a.at (digits j l.rest)) (sym done) ∙ l.invariant;
    }
