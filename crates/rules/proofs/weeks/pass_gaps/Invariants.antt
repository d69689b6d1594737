-- `weeks::pass_gaps`. Before each turn all slots between the place and the first are gaps, and the weeks that are left lie in the book.
use mathlib.Core.List.{List}
use Prim.Native.Nat.{ℕ, ◌-◌, ◌*◌, ◌≤◌}
use Rattle.rules.specs.Inner.Ways.{GapsUpTo}
use Rattle.rules.proofs.weeks.pass_gaps.Given as goal

pub record Held (versions : List ℕ) (from week weeks at left : ℕ) : Type 0 where
  pub fewer : left ≤ weeks
  pub fits : left * week ≤ at
  pub near : at ≤ from
  pub passed : GapsUpTo versions week from at (weeks - left)

abbrev pub invariant-loop-left : goal.invariant-loop-left
invariant-loop-left l = Held l.versions l.from l.week l.weeks l.at l.left

abbrev pub decreases-loop-left : goal.decreases-loop-left
decreases-loop-left l = l.left
