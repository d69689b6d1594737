-- `weeks::way_back` goes by whether the day is a holiday.
use mathlib.Core.Path.{◌≡◌, ◌∙◌}
use Prim.Native.Nat.{◌+◌}
use native.Mathlib.Omega.{arith}
use borrow.Author.Tests.{eq-eqb, ne_eqb}
use lib.ListN.{get_or}
use Rattle.calendar.proofs.Sundays.{one_to_seven}
use Rattle.rules.specs.Weeks.{first_back, farthest_back}
use Rattle.rules.proofs.Bounds.{bounded}
use Rattle.rules.proofs.weeks.way_back.Goals as goal

pub way_within-requires : goal.way_within-requires
way_within-requires c =
    let b = bounded c.args.head c.requires.0 in
    (omega arith, omega arith, omega arith)

pub returns-then-holidays-day-eq0 : goal.returns-then-holidays-day-eq0
unfolding first_back farthest_back
returns-then-holidays-day-eq0 c =
    let a = c.args in
    let e : get_or a.holidays.now a.day 0 ≡ 0 = c.if-holidays-day-eq0.true in
    rw (eq-eqb _ _ e) (c.way_within.ensures.0, c.way_within.ensures.1)

pub overflow_add-number : goal.overflow_add-number
overflow_add-number c = omega (arith, bounded c.args.head c.requires.0)

pub to_sunday-requires : goal.to_sunday-requires
to_sunday-requires c =
    let b = bounded c.args.head c.requires.0 in
    omega arith

pub way_within-requires-2 : goal.way_within-requires-2
way_within-requires-2 c =
    let b = bounded c.args.head c.requires.0 in
    let t = one_to_seven (c.first_day.result + c.args.day) in
    (omega arith, omega arith, omega arith)

pub returns : goal.returns
unfolding first_back farthest_back
returns c =
    rw (ne_eqb _ _ c.if-holidays-day-eq0.false)
    (c.way_within-2.ensures.0 ∙ c.to_sunday.ensures ∙ rw c.first_day.ensures, c.way_within-2.ensures.1)
