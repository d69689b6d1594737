-- `back::fills_before`: what a pass knows before slot k, from a good slot on.
use Rattle.rules.specs.declared.linear.StraightLine.{StraightLine}
use Rattle.rules.specs.declared.Head.{Head}
use Prim.Native.Nat.{ℕ, ◌≤◌, ◌<◌}
use mathlib.Core.List.{List}
use mathlib.Core.Bool.{Bool, false}
use mathlib.Core.Path.{◌≡◌}
use Rattle.rules.specs.Opening.{Slots, slot_count}
use Rattle.rules.specs.Tests.{good_at}
use Rattle.rules.specs.Lent.{slots_in}
use Rattle.rules.specs.Inner.Walks.{zero_before, line_before}
use Rattle.explain.proofs.back.fills_before.Given as goal

pub record Held (head : Head) (s : Slots) (agreed-versions : List ℕ) (at k : ℕ) (outage : Bool) (line : StraightLine) : Type 0 where
  pub inside : k ≤ at
  pub zeroed : outage ≡ zero_before s.versions s.statuses (slot_count head) k
  pub drawn : line ≡ line_before head s agreed-versions k
  pub none : (j : ℕ) → k ≤ j → j < at → good_at head s j ≡ false

abbrev pub invariant-loop-k : goal.invariant-loop-k
invariant-loop-k l = Held l.head (slots_in l.slots) l.agreed_versions l.at l.k l.outage l.line
