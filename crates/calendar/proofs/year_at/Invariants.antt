-- `year_at`. What is left to place is placed from the present year on.
use mathlib.Core.Path.{◌≡◌}
use Prim.Native.Nat.{◌-◌}
use Rattle.calendar.specs.Calendar.{year_length, place}
use Rattle.calendar.proofs.year_at.Given as goal

abbrev pub invariant-loop-at : goal.invariant-loop-at
invariant-loop-at l = place year_length 99 2000 l.number ≡ place year_length (2099 - l.at) l.at l.left
