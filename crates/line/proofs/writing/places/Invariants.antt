-- `writing::places`: the digits of what is left, and those counted.
use mathlib.Core.Path.{◌≡◌}
use Prim.Native.Nat.{◌-◌, ◌+◌}
use Rattle.line.specs.Line.{places}
use Rattle.line.proofs.writing.places.Given as goal

abbrev pub invariant-loop-k : goal.invariant-loop-k
invariant-loop-k l = places 19 l.n + 1 ≡ l.k + places (20 - l.k) l.rest
