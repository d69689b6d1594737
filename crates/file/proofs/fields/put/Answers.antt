-- `file::fields::put` meets its contract.
use mathlib.Core.Path.{◌≡◌, refl, ◌∙◌, ap}
use Prim.Native.Nat.{◌%◌}
use native.Mathlib.Nat.{sub-zero}
use native.Mathlib.Omega.{arith}
use borrow.Author.Rules.{rules}
use lib.ListN.{length-set, length}
use lib.Seq.{paste, paste-zero}
use Rattle.file.specs.Layout.{bytes}
use Rattle.file.proofs.Numbers.{length_bytes}
use Rattle.file.proofs.Written.{paste_more, bytes_next, paste_all}
use Rattle.file.proofs.fields.put.Goals as goal

pub loop-j-init : goal.loop-j-init
loop-j-init c =
    record {
      long = refl;
      pasted = paste-zero c.args.buf.now c.args.at (bytes c.args.width c.args.n);
      more = rw sub-zero;
    }

pub loop-j-preserved : goal.loop-j-preserved
loop-j-preserved c =
    let a = c.args in
    let l = c.loop-j in
    let next = bytes_next a.width a.n l.j l.rest (search rules) l.invariant.more in
    record {
      long = simp length-set l.invariant.long;
      pasted =
          rw l.invariant.pasted
          (paste_more a.buf.now a.at a.width a.n l.j (l.rest % 256) (search rules) (search rules) next.0);
      more = next.1;
    }

pub shape_of-buf : goal.shape_of-buf
shape_of-buf c = c.loop-j.invariant.long

pub returns : goal.returns
returns c =
    let a = c.args in
    let done : c.loop-j.j ≡ length (bytes a.width a.n) = omega (arith, length_bytes a.width a.n) in
    c.loop-j.invariant.pasted ∙ ap (paste a.buf.now a.at (bytes a.width a.n)) done
    ∙ paste_all a.buf.now a.at (bytes a.width a.n)
