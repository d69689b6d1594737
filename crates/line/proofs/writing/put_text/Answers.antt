-- `writing::put_text` meets its contract.
use borrow.Author.Rules.{rules}
use mathlib.Core.Path.{◌≡◌, ap, ◌∙◌}
use native.Mathlib.Omega.{arith}
use lib.ListN.{length, take}
use lib.Seq.{take-length}
use Rattle.line.specs.Inner.Writing.{stored}
use Rattle.line.proofs.Putting.{capped_min, length_stored, text_none, text_more}
use Rattle.line.proofs.writing.put_text.Goals as goal

pub loop-i-init : goal.loop-i-init
loop-i-init c = text_none c.args.out.now c.args.at c.args.text.now

pub loop-i-preserved : goal.loop-i-preserved
loop-i-preserved c = text_more _ c.loop-i.out _ c.args.text.now c.args.at c.loop-i.i (search rules) c.loop-i.invariant c.put_byte.ensures

pub shape_of-out : goal.shape_of-out
shape_of-out c = ap length c.loop-i.invariant ∙ length_stored _ _ _

pub returns : goal.returns
returns c =
    let a = c.args in
    let l = c.loop-i in
    let done : l.i ≡ length a.text.now = omega arith in
    record {
      fits = search rules;
      next = c.saturating_add.ensures ∙ capped_min _;
      has = l.invariant ∙ ap (λ n. stored a.out.now a.at (take n a.text.now)) done ∙ rw take-length;
    }
