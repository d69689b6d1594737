-- `writing::put_digits` meets its contract.
use mathlib.Core.Path.{◌≡◌}
use Rattle.line.specs.Line.{digits}
use Rattle.line.specs.Inner.Writing.{stored}
use Rattle.line.proofs.writing.put_digits.Given as goal

abbrev pub invariant-loop-j : goal.invariant-loop-j
invariant-loop-j l = stored l.out l.at (digits l.j l.rest) ≡ stored l.initial.out l.at (digits l.width l.n)
