-- `sound::bad_day`. No day passed has a cell that no calls could leave.
use mathlib.Core.Path.{sym, ◌∙◌}
use Rattle.book.proofs.Passed.{none_yet, one_more, at_fault, all_passed}
use Rattle.book.proofs.sound.bad_day.Goals as goal

pub loop-day-init : goal.loop-day-init
loop-day-init c = none_yet _ _

pub returns-then-day_fault : goal.returns-then-day_fault
returns-then-day_fault c =
    at_fault _ _ _ c.loop-day-test.true (sym c.day_fault.ensures ∙ c.if-day_fault.true)

pub loop-day-preserved : goal.loop-day-preserved
loop-day-preserved c =
    one_more _ _ _ c.loop-day.invariant c.loop-day-test.true
    (sym c.day_fault.ensures ∙ c.if-day_fault.false)

pub returns : goal.returns
returns c =
    all_passed _ _ _ c.loop-day.invariant c.loop-day-test.false
