-- `linear::length_within`. The k slots from slot `at` lie in the run, and the one before slot at + k is not zeroed.
use mathlib.Core.List.{List}
use Rattle.rules.specs.declared.Head.{Head}
use mathlib.Core.Bool.{false}
use mathlib.Core.Path.{◌≡◌}
use Prim.Native.Nat.{ℕ, ◌+◌, ◌-◌, ◌≤◌}
use Rattle.rules.specs.Opening.{Slots, slot_count}
use Rattle.rules.specs.Lent.{slots_in}
use Rattle.rules.specs.Filling.{run_from}
use Rattle.rules.specs.Inner.Walks.{zero_before}
use Rattle.rules.proofs.linear.length_within.Given as goal

pub record Held (h : Head) (s : Slots) (agreed : List ℕ) (at k : ℕ) : Type 0 where
  pub inside : at + k ≤ slot_count h
  pub run : run_from h s agreed at (slot_count h - at)
      ≡ k + run_from h s agreed (at + k) (slot_count h - (at + k))
  pub level : false ≡ zero_before s.versions s.statuses (slot_count h) (at + k)

abbrev pub invariant-loop-k : goal.invariant-loop-k
invariant-loop-k l = Held l.head (slots_in l.slots) l.agreed_versions l.at l.k
