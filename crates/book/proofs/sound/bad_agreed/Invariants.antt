-- `sound::bad_agreed`. Before each slot `bad` says whether an agreed slot so far has a cell that no calls could leave.
use mathlib.Core.Bool.{Bool}
use mathlib.Core.Path.{◌≡◌}
use Prim.Native.Nat.{ℕ, ◌≤◌}
use lib.ListN.{length}
use Rattle.base.specs.Lists.{any}
use Rattle.rules.specs.Opening.{Agreed}
use Rattle.rules.specs.Lent.{agreed_in}
use Rattle.book.specs.Cells.{agreed_fault_at}
use Rattle.book.proofs.sound.bad_agreed.Given as goal

pub record Held (a : Agreed) (bad : Bool) (i : ℕ) : Type 0 where
  pub inside : i ≤ length a.values
  pub known : bad ≡ any (agreed_fault_at a) 0 i

abbrev pub invariant-loop-i : goal.invariant-loop-i
invariant-loop-i l = Held (agreed_in l.agreed) l.bad l.i
