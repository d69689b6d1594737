-- `to_strips`: after i turns the places of the first i slots hold what is laid of them.
use mathlib.Core.Path.{◌≡◌}
use Rattle.strips.proofs.Passes.{strips_to}
use Rattle.strips.proofs.to_strips.Given as goal

abbrev pub invariant-loop-i : goal.invariant-loop-i
invariant-loop-i l = l.out ≡ strips_to l.n l.table l.initial.out l.i
