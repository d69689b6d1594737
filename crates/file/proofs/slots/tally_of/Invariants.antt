-- `file::slots::tally_of`. After i slots the tally is that of i slots.
use mathlib.Core.List.{List}
use mathlib.Core.Path.{◌≡◌}
use Prim.Native.Nat.{ℕ, ◌≤◌, ◌*◌, ◌^◌}
use Rattle.file.specs.declared.slots.Tally.{Tally}
use Rattle.file.specs.Inner.Reading.{tallied_in}
use Rattle.file.proofs.slots.tally_of.Given as goal

pub record Held (file : List ℕ) (a : ℕ) (found : Tally) (i : ℕ) : Type 0 where
  pub low : found.sum ≤ 2 ^ 32 * i
  pub tallied : found ≡ tallied_in file a i

abbrev pub invariant-loop-i : goal.invariant-loop-i
invariant-loop-i l = Held l.file l.a l.found l.i
