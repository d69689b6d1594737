-- `file::slots::has_scaled`: a scaled slot is one of the `k`.
use mathlib.Core.Bool.{true}
use mathlib.Core.Path.{◌≡◌, sym}
use Prim.Native.Nat.{◌+◌}
use native.Mathlib.Omega.{arith}
use Rattle.base.proofs.Sums.{any_some}
use Rattle.file.specs.Reader.{scaled, slot_at}
use Rattle.file.proofs.slots.has_scaled.Goals as goal

pub returns-then-found : goal.returns-then-found
returns-then-found c =
    let a = c.args in
    let i = a.a + c.loop-i.i in
    let here : scaled (slot_at a.file.now i) ≡ true = grind arith in
    sym (any_some (λ i. scaled (slot_at a.file.now i)) a.a a.k i (omega arith) (omega arith) here)
