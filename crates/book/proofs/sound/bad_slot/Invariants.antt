-- `sound::bad_slot`. Before each slot `bad` says whether a slot so far has a cell that no calls could leave.
use mathlib.Core.Bool.{Bool}
use mathlib.Core.Path.{◌≡◌}
use Prim.Native.Nat.{ℕ, ◌≤◌}
use lib.ListN.{length}
use Rattle.base.specs.Lists.{any}
use Rattle.rules.specs.Opening.{Slots}
use Rattle.rules.specs.Lent.{slots_in}
use Rattle.book.specs.Cells.{slot_fault_at}
use Rattle.book.proofs.sound.bad_slot.Given as goal

pub record Held (s : Slots) (bad : Bool) (i : ℕ) : Type 0 where
  pub inside : i ≤ length s.values
  pub known : bad ≡ any (slot_fault_at s) 0 i

abbrev pub invariant-loop-i : goal.invariant-loop-i
invariant-loop-i l = Held (slots_in l.slots) l.bad l.i
