-- `file::counting::totals`. After i slots what is met is what i slots have.
use mathlib.Core.List.{List}
use mathlib.Core.Path.{◌≡◌}
use Prim.Native.Nat.{ℕ}
use Rattle.file.specs.declared.counting.Counted.{Counted}
use Rattle.file.specs.Inner.Reading.{Within, met_by, counted_in}
use Rattle.file.proofs.counting.totals.Given as goal

pub record Held (file : List ℕ) (found : Counted) (i : ℕ) : Type 0 where
  pub low : Within i (met_by found)
  pub known : met_by found ≡ counted_in file i

abbrev pub invariant-loop-i : goal.invariant-loop-i
invariant-loop-i l = Held l.file l.found l.i
