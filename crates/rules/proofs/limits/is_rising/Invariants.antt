-- `limits::is_rising`. Every limit passed rises, so the test of all is that of those left; the one before is known.
use mathlib.Core.List.{List}
use mathlib.Core.Path.{◌≡◌}
use Prim.Native.Nat.{ℕ, ◌-◌}
use lib.ListN.{length}
use Rattle.base.specs.Lists.{all}
use Rattle.rules.specs.Limits.{limit_before, rises_at}
use Rattle.rules.proofs.limits.is_rising.Given as goal

pub record Held (table : List ℕ) (last i : ℕ) : Type 0 where
  pub before : last ≡ limit_before table i
  pub rising : all (rises_at table) 0 (length table) ≡ all (rises_at table) i (length table - i)

abbrev pub invariant-loop-limit : goal.invariant-loop-limit
invariant-loop-limit l = Held l.table l.last l.limit-index
