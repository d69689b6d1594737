-- `filling::find_references`. Before each week the search stands, and what is kept of each reference so far is its value and its day.
use mathlib.Core.List.{List}
use Prim.Native.Nat.{ℕ, ◌/◌}
use Rattle.rules.specs.declared.Head.{Head}
use Rattle.rules.specs.Opening.{Slots, slots_per_day}
use Rattle.rules.specs.Lent.{slots_in}
use Rattle.rules.specs.Inner.Ways.{value_of}
use Rattle.rules.proofs.Searches.{Keeping, Standing}
use Rattle.rules.proofs.filling.find_references.Given as goal

pub record Held (h : Head) (s : Slots) (holidays : List ℕ) (slot week : ℕ) (found days : List ℕ) (count left at : ℕ) : Type 0 where
  pub standing : Standing h slot week count at left
  pub values : Keeping (value_of s) h s holidays slot found count at left
  pub dates : Keeping (λ j. j / slots_per_day h) h s holidays slot days count at left

abbrev pub invariant-weeks : goal.invariant-weeks
invariant-weeks l = Held l.head (slots_in l.slots) l.holidays l.slot l.week l.found l.days l.count l.left l.at

abbrev pub decreases-weeks : goal.decreases-weeks
decreases-weeks l = l.left
