-- `checks::all_of`: the bytes from the next one on are left to be tested.
use mathlib.Core.Bool.{Bool}
use mathlib.Core.Path.{◌≡◌}
use Prim.Native.Nat.{ℕ, ◌-◌}
use lib.ListN.{length, get_or}
use Rattle.base.specs.Lists.{all}
use Rattle.market.specs.Export.{Tells, all_of}
use Rattle.market.proofs.checks.all_of.Given as goal

abbrev pub invariant-loop-byte : goal.invariant-loop-byte
invariant-loop-byte g l =
    (k : ℕ → Bool) → Tells (λ b told. g.F.Fn.post l.test (b, tt) told) k
    → all_of k l.text ≡ all (λ j. k (get_or l.text j 0)) l.byte-index (length l.text - l.byte-index)
