-- `month_at`. What is left of the day past the present month's start is placed from that month on.
use mathlib.Core.Path.{◌≡◌, refl, sym, ◌∙◌}
use Prim.Native.Nat.{◌-◌, ◌≤◌, ◌<◌}
use native.Mathlib.Nat.{sub-zero}
use native.Mathlib.Omega.{arith}
use Rattle.base.specs.Lists.{sum}
use Rattle.calendar.specs.Calendar.{month_length, days_before_month}
use Rattle.calendar.proofs.Places.{place_here, place_next, place_end}
use Rattle.calendar.proofs.Starts.{next_start}
use Rattle.calendar.proofs.month_at.Goals as goal

pub loop-at-init : goal.loop-at-init
unfolding days_before_month sum
loop-at-init c = record { sum = refl; passed = omega arith; known = rw sub-zero }

pub returns-then-year-next : goal.returns-then-year-next
returns-then-year-next c =
    let l = c.loop-at in
    let y = c.args.year in
    let h : y.left - l.start < month_length y.at l.at = omega (arith, next_start y.at l.at (omega arith)) in
    sym (l.invariant.known ∙ place_here (month_length y.at) _ _ _ h)

pub loop-at-preserved : goal.loop-at-preserved
loop-at-preserved c =
    let l = c.loop-at in
    let y = c.args.year in
    let n = c.days_before_month-next in
    let s = next_start y.at l.at (omega arith) in
    let h : month_length y.at l.at ≤ y.left - l.start = omega arith in
    let e : y.left - l.start - month_length y.at l.at ≡ y.left - n.result = omega arith in
    record {
      sum = n.ensures;
      passed = omega arith;
      known = l.invariant.known ∙ place_next (month_length y.at) 12 l.at (y.left - l.start) (omega arith) h ∙ rw e;
    }

pub returns : goal.returns
returns c =
    let l = c.loop-at in
    let y = c.args.year in
    sym (l.invariant.known ∙ place_end (month_length y.at) 12 l.at (y.left - l.start) (omega arith))
