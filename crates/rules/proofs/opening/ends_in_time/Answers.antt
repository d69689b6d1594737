-- `opening::ends_in_time`: a first day before 2098 needs no day number.
use Prim.Native.Nat.{◌+◌, ◌≤◌}
use native.Mathlib.Omega.{arith}
use borrow.Author.Tests.{le-leb}
use Rattle.calendar.proofs.Dates.{last_day, early_day}
use Rattle.rules.specs.Opening.{first_day}
use Rattle.rules.proofs.opening.ends_in_time.Goals as goal

pub returns-then-head-lt2098 : goal.returns-then-head-lt2098
unfolding first_day
returns-then-head-lt2098 c =
    let h = c.args.head in
    let early = early_day _ _ _ c.requires.0 c.if-head-lt2098.true in
    let ends : first_day h + h.days ≤ 36525 = omega (arith, early, c.requires.1) in
    rw (le-leb _ _ ends)

pub overflow_add-result : goal.overflow_add-result
overflow_add-result c = omega (arith, c.day_number.ensures, last_day _ _ _ c.requires.0, c.requires.1)

pub returns : goal.returns
unfolding first_day
returns c = simp c.day_number.ensures
