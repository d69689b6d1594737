-- `file::trailer::figures_at` meets its contract.
use Prim.Native.Nat.{◌+◌, ◌-◌}
use native.Mathlib.Omega.{arith}
use lib.ListN.{length}
use Rattle.file.proofs.Offsets.{figures_at}
use Rattle.file.proofs.trailer.figures_at.Goals as goal

pub overflow_cast-result-3 : goal.overflow_cast-result-3
overflow_cast-result-3 c = omega (arith, c.type_inv.file (length c.args.file.now - 32 + 4))

pub overflow_cast-result-8 : goal.overflow_cast-result-8
overflow_cast-result-8 c = omega (arith, c.type_inv.file (length c.args.file.now - 32 + 5))

pub returns : goal.returns
returns c =
    let number = c.number in
    let number2 = c.number-2 in
    let number3 = c.number-3 in
    let number4 = c.number-4 in
    let number5 = c.number-5 in
    simp (
      figures_at,
      number.ensures.0,
      number2.ensures.0,
      number3.ensures.0,
      number4.ensures.0,
      number5.ensures.0,
      c.number-6.ensures.0,
      c.number-7.ensures.0,
    )
