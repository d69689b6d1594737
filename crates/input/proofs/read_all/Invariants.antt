-- `input::read_all`: what was read never passes the buffer.
use Rattle.std.proofs.Common.{length, take, ◌-◌, ◌≡◌, ◌≤◌, List, Option, ℕ}
use Rattle.std.specs.Io.KnownBytes.{Consumes}
use Rattle.input.proofs.read_all.Given as goal

pub record Held (old now : Option (List ℕ)) (buf₀ buf : List ℕ) (n : ℕ) : Type 0 where
  pub inside : n ≤ length buf
  pub long : length buf ≡ length buf₀
  pub taken : Consumes old now (take n buf)

abbrev pub invariant-loop-n : goal.invariant-loop-n
invariant-loop-n g l = Held (g.R.Read.remaining l.fn.reader) (g.R.Read.remaining l.reader) l.initial.buf l.buf l.n

abbrev pub decreases-loop-n : goal.decreases-loop-n
decreases-loop-n g l = length l.initial.buf - l.n
