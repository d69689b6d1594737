-- `month_at`. What is left of the day past the present month's start is placed from that month on.
use Rattle.calendar.specs.declared.Place.{Place}
use mathlib.Core.Path.{◌≡◌}
use Prim.Native.Nat.{ℕ, ◌-◌, ◌≤◌}
use Rattle.calendar.specs.Calendar.{month_length, days_before_month, place}
use Rattle.calendar.proofs.month_at.Given as goal

pub record Held (year : Place) (at start : ℕ) : Type 0 where
  pub sum : start ≡ days_before_month year.at (at - 1)
  pub passed : start ≤ year.left
  pub known : place (month_length year.at) 11 1 year.left ≡ place (month_length year.at) (12 - at) at (year.left - start)

abbrev pub invariant-loop-at : goal.invariant-loop-at
invariant-loop-at l = Held l.year l.at l.start
