-- `back::since_good`: the slots from slot `last` on have causes.
use Prim.Native.Nat.{ℕ, ◌≤◌, ◌<◌}
use mathlib.Core.Bool.{false}
use mathlib.Core.Path.{◌≡◌}
use Rattle.rules.specs.Tests.{good_at}
use Rattle.rules.specs.Lent.{slots_in}
use Rattle.explain.proofs.back.since_good.Given as goal

abbrev pub invariant-loop-last : goal.invariant-loop-last
invariant-loop-last l = (k : ℕ) → l.last ≤ k → k < l.at → good_at l.head (slots_in l.slots) k ≡ false
