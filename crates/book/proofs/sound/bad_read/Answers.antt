-- `sound::bad_read`. No boundary passed has a cell that no calls could leave.
use mathlib.Core.Path.{sym, ◌∙◌}
use Rattle.book.proofs.Passed.{none_yet, one_more, at_fault, all_passed}
use Rattle.book.proofs.sound.bad_read.Goals as goal

pub loop-i-init : goal.loop-i-init
loop-i-init c = none_yet _ _

pub returns-then-read_fault : goal.returns-then-read_fault
returns-then-read_fault c =
    at_fault _ _ _ c.loop-i-test.true (sym c.read_fault.ensures ∙ c.if-read_fault.true)

pub loop-i-preserved : goal.loop-i-preserved
loop-i-preserved c =
    one_more _ _ _ c.loop-i.invariant c.loop-i-test.true (sym c.read_fault.ensures ∙ c.if-read_fault.false)

pub returns : goal.returns
returns c =
    all_passed _ _ _ c.loop-i.invariant c.loop-i-test.false
