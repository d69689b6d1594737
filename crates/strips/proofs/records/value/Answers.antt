-- `records::value` reads four bytes, step apart.
use Prim.Native.Nat.{◌+◌, ◌*◌}
use native.Mathlib.Omega.{arith}
use Rattle.strips.proofs.Numbers.{number_spaced}
use Rattle.strips.proofs.records.value.Goals as goal

pub returns : goal.returns
returns c =
    let a = c.args in
    let byte = c.type_inv.bytes in (
      number_spaced a.bytes.now a.at a.step,
      omega (arith, byte a.at, byte (a.at + a.step), byte (a.at + 2 * a.step), byte (a.at + 3 * a.step)),
    )
