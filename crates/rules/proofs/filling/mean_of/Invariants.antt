-- `filling::mean_of`. The loop's sum is the total of the values passed; what it has beyond the mean is the remainder.
use mathlib.Core.List.{List}
use mathlib.Core.Path.{◌≡◌}
use Prim.Native.Nat.{ℕ, ◌≤◌, ◌*◌}
use lib.ListN.{take}
use Rattle.base.specs.Lists.{sum_of}
use Rattle.rules.proofs.filling.mean_of.Given as goal

pub record Held (values : List ℕ) (sum i : ℕ) : Type 0 where
  pub known : sum ≡ sum_of (take i values)
  pub small : sum ≤ i * 4_294_967_295

abbrev pub invariant-loop-value : goal.invariant-loop-value
invariant-loop-value l = Held l.value-items l.sum l.value-index
