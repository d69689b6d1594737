-- `file::fields::number`: what is read so far is the number in the bytes from the last one read.
use mathlib.Core.Path.{◌≡◌}
use Prim.Native.Nat.{◌+◌, ◌-◌, ◌<◌}
use native.Mathlib.Nat.{sub_self, sub-zero, add-zero}
use native.Mathlib.Omega.{arith}
use borrow.Author.Rules.{rules}
use lib.Dec.{lit<}
use lib.ListN.{get_or}
use Rattle.file.specs.Reader.{num}
use Rattle.file.proofs.Numbers.{num_down, pow_down, seven}
use Rattle.file.proofs.fields.number.Goals as goal

pub loop-j-init : goal.loop-j-init
unfolding num
loop-j-init c = record { known = rw sub_self; small = rw sub_self (lit< tt) }

pub overflow_mul-n : goal.overflow_mul-n
overflow_mul-n c =
    let a = c.args in
    let l = c.loop-j in
    omega (arith, seven a.width l.j (search rules) (search rules) (search rules))

pub overflow_add-n-in-loop-j : goal.overflow_add-n-in-loop-j
overflow_add-n-in-loop-j c =
    let a = c.args in
    let l = c.loop-j in
    omega (arith, c.type_inv.s (a.at + (l.j - 1)), seven a.width l.j (search rules) (search rules) (search rules))

pub loop-j-preserved : goal.loop-j-preserved
loop-j-preserved c =
    let a = c.args in
    let l = c.loop-j in
    let byte : get_or a.s.now (a.at + (l.j - 1)) 0 < 256 = omega (arith, c.type_inv.s (a.at + (l.j - 1))) in
    record {
      known = rw l.invariant.known (num_down a.s.now a.width a.at l.j (search rules) (search rules));
      small = pow_down a.width l.j l.n _ (search rules) (search rules) l.invariant.small byte;
    }

pub returns : goal.returns
returns c =
    let done : c.loop-j.j ≡ 0 = omega arith in
    (rw (done, sub-zero, add-zero) at c.loop-j.invariant.known, rw (done, sub-zero) at c.loop-j.invariant.small)
