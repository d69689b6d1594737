-- `sound::delivered`: after k slots the number is that of the delivered slots passed.
use mathlib.Core.List.{List}
use mathlib.Core.Path.{◌≡◌}
use Prim.Native.Nat.{ℕ, ◌≤◌}
use Rattle.book.proofs.Counting.{among}
use Rattle.book.proofs.sound.delivered.Given as goal

pub record Held (versions : List ℕ) (first count found k : ℕ) : Type 0 where
  pub inside : k ≤ count
  pub most : found ≤ k
  pub known : found ≡ among versions first k

abbrev pub invariant-loop-k : goal.invariant-loop-k
invariant-loop-k l = Held l.versions l.first l.count l.found l.k
