-- `year_at`. What is left to place is placed from the present year on.
use mathlib.Core.Path.{sym, ◌∙◌}
use Prim.Native.Nat.{◌≤◌, ◌<◌}
use native.Mathlib.Omega.{arith}
use Rattle.calendar.specs.Calendar.{year_length}
use Rattle.calendar.proofs.Places.{place_here, place_next, place_end}
use Rattle.calendar.proofs.year_at.Goals as goal

pub returns-then-left-length : goal.returns-then-left-length
returns-then-left-length c =
    let l = c.loop-at in
    let h : l.left < year_length l.at = omega arith in
    sym (l.invariant ∙ place_here year_length _ _ _ h)

pub loop-at-preserved : goal.loop-at-preserved
loop-at-preserved c =
    let l = c.loop-at in
    let h : year_length l.at ≤ l.left = omega arith in
    l.invariant ∙ rw c.year_length-length.ensures (place_next year_length 2099 l.at l.left (omega arith) h)

pub returns : goal.returns
returns c =
    let l = c.loop-at in
    sym (l.invariant ∙ place_end year_length 2099 l.at l.left (omega arith))
