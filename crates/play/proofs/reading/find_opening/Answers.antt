-- `reading::find_opening`: no line so far is the opening, and none is wrong.
use native.Mathlib.Omega.{arith}
use Rattle.play.proofs.Stepping.{leading_first, leading_next, leading_opened, leading_wrong, leading_none}
use Rattle.play.proofs.reading.find_opening.Goals as goal

pub loop-at-init : goal.loop-at-init
loop-at-init c = rw c.none-table.ensures (leading_first _)

pub loop-at-preserved : goal.loop-at-preserved
loop-at-preserved c =
    rw c.table_after-table.ensures
    (leading_next c.loop-at.invariant c.line_at-cut.ensures _
    c.entry_of-entry.ensures (rw c.in-Ok-None.field-0-is at c.in-Ok-None.ensures))

pub returns-in-Ok-Some : goal.returns-in-Ok-Some
returns-in-Ok-Some c =
    leading_opened c.loop-at.invariant c.line_at-cut.ensures _
    c.entry_of-entry.ensures _ (rw c.in-Ok-Some.field-0-is at c.in-Ok-Some.ensures)

pub returns-in-Err : goal.returns-in-Err
returns-in-Err c =
    rw c.in_line.ensures
    (leading_wrong c.loop-at.invariant c.line_at-cut.ensures _
    c.entry_of-entry.ensures _ c.in-Err.ensures)

pub returns : goal.returns
returns c = leading_none c.loop-at.invariant (omega arith)
