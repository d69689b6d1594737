-- `days::sum_of`: after i turns the sum is that of i slots.
use mathlib.Core.List.{List}
use mathlib.Core.Path.{◌≡◌}
use Prim.Native.Nat.{ℕ, ◌≤◌, ◌*◌, ◌^◌}
use Rattle.base.specs.Lists.{sum}
use Rattle.file.specs.Reader.{slot_at}
use Rattle.totals.proofs.days.sum_of.Given as goal

pub record Held (file : List ℕ) (a energy i : ℕ) : Type 0 where
  pub known : energy ≡ sum (λ x. (slot_at file x).value) a i
  pub small : energy ≤ 2 ^ 32 * i

abbrev pub invariant-loop-i : goal.invariant-loop-i
invariant-loop-i l = Held l.file l.a l.energy l.i
