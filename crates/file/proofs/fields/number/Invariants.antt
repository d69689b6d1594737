-- `file::fields::number`: what is read so far is the number in the bytes from the last one read.
use mathlib.Core.List.{List}
use mathlib.Core.Path.{◌≡◌}
use Prim.Native.Nat.{ℕ, ◌<◌, ◌+◌, ◌-◌, ◌^◌}
use Rattle.file.specs.Reader.{num}
use Rattle.file.proofs.fields.number.Given as goal

pub record Held (s : List ℕ) (at width n j : ℕ) : Type 0 where
  pub known : n ≡ num (width - j) s (at + j)
  pub small : n < 256 ^ (width - j)

abbrev pub invariant-loop-j : goal.invariant-loop-j
invariant-loop-j l = Held l.s l.at l.width l.n l.j
