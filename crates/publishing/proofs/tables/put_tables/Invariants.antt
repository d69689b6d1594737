-- `tables::put_tables`. Before slot i the buffer holds the records of the first i slots and of the spans begun.
use mathlib.Core.List.{List}
use mathlib.Core.Path.{◌≡◌}
use Prim.Native.Nat.{ℕ, ◌-◌, ◌≤◌}
use lib.ListN.{length}
use Rattle.rules.specs.declared.Head.{Head}
use Rattle.rules.specs.Opening.{Cells}
use Rattle.rules.specs.Lent.{cells_in}
use Rattle.publishing.specs.declared.tables.Progress.{Progress}
use Rattle.publishing.specs.Inner.Publishing.{progress_at, buffer_at}
use Rattle.publishing.proofs.tables.put_tables.Given as goal

pub record Held (h : Head) (b : Cells) (d₀ : List ℕ) (n : ℕ) (d : List ℕ) (here : Progress) (i : ℕ) : Type 0 where
  pub inside : i ≤ n
  pub long : length d ≡ length d₀
  pub known : here ≡ progress_at h b i
  pub bytes : d ≡ buffer_at h b d₀ i

abbrev pub invariant-loop-i : goal.invariant-loop-i
invariant-loop-i l = Held l.head (cells_in l.cells) l.initial.out l.n
    l.out l.here l.i

abbrev pub decreases-loop-i : goal.decreases-loop-i
decreases-loop-i l = l.n - l.i
