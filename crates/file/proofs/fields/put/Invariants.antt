-- `file::fields::put` meets its contract.
use mathlib.Core.List.{List}
use mathlib.Core.Path.{◌≡◌}
use Prim.Native.Nat.{ℕ, ◌-◌}
use lib.ListN.{length, drop}
use lib.Seq.{paste}
use Rattle.file.specs.Layout.{bytes}
use Rattle.file.proofs.fields.put.Given as goal

pub record Held (buf₀ : List ℕ) (at width n : ℕ) (buf : List ℕ) (rest j : ℕ) : Type 0 where
  pub long : length buf ≡ length buf₀
  pub pasted : buf ≡ paste buf₀ at (bytes width n) j
  pub more : drop j (bytes width n) ≡ bytes (width - j) rest

abbrev pub invariant-loop-j : goal.invariant-loop-j
invariant-loop-j l = Held l.initial.buf l.at l.width l.n l.buf l.rest l.j
