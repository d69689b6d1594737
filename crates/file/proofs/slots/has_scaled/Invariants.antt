-- `file::slots::has_scaled`. No slot passed is scaled.
use mathlib.Core.Bool.{false}
use mathlib.Core.Path.{◌≡◌}
use Rattle.base.specs.Lists.{any}
use Rattle.file.specs.Reader.{scaled, slot_at}
use Rattle.file.proofs.slots.has_scaled.Given as goal

abbrev pub invariant-loop-i : goal.invariant-loop-i
invariant-loop-i l = any (λ i. scaled (slot_at l.file i)) l.a l.i ≡ false
