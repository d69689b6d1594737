-- `refusing::file_size`: the sum is small.
use native.Mathlib.Omega.{arith}
use mathlib.Core.Path.{ap}
use Rattle.berth.specs.Inner.Refusing.{file_size}
use Rattle.berth.proofs.Sends.{slots_high}
use Prim.Native.Nat.{ℕ, ◌+◌, ◌*◌}
use Rattle.berth.proofs.refusing.file_size.Goals as goal

pub overflow_mul-result : goal.overflow_mul-result
overflow_mul-result c = record { fits = omega (arith, c.slot_count.ensures, slots_high _ c.requires) }

pub overflow_add-result : goal.overflow_add-result
overflow_add-result c = record { fits = omega (arith, c.slot_count.ensures, slots_high _ c.requires) }

pub overflow_add-result-2 : goal.overflow_add-result-2
overflow_add-result-2 c = record { fits = omega (arith, c.slot_count.ensures, slots_high _ c.requires) }

pub returns : goal.returns
unfolding file_size
returns c = ap (λ (n : ℕ). 6 * n + 14 + 32) c.slot_count.ensures
