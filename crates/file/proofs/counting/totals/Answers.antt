-- `file::counting::totals`. After i slots what is met is what i slots have.
use mathlib.Core.Path.{◌≡◌, ap, ap₂, ◌∙◌}
use Prim.Native.Nat.{◌<◌, ◌^◌}
use native.Mathlib.Omega.{arith}
use borrow.Author.Rules.{rules}
use Rattle.file.specs.Inner.Reading.{met_by, counted_with, counted_in}
use Rattle.file.proofs.Counts.{within_more, within_with, counted_empty, counted_on}
use Rattle.file.proofs.counting.totals.Goals as goal

pub loop-i-init : goal.loop-i-init
loop-i-init c =
    record {
      low = record { actual = omega arith; substituted = omega arith; agreed = omega arith; none = omega arith; sum = omega arith };
      known = counted_empty c.args.file.now;
    }

pub with_slot-found-requires : goal.with_slot-found-requires
with_slot-found-requires c =
    within_more c.loop-i.i 115_200 (met_by c.loop-i.found) c.loop-i.invariant.low
    (omega arith)

pub loop-i-preserved : goal.loop-i-preserved
loop-i-preserved c =
    let held = c.loop-i.invariant in
    let e = c.with_slot-found.ensures in
    let low : c.slot_at.result.value < 2 ^ 32 = search rules in
    record {
      low = rw e (within_with c.loop-i.i (met_by c.loop-i.found) c.slot_at.result held.low low);
      known = e ∙ ap₂ counted_with held.known c.slot_at.ensures ∙ counted_on c.args.file.now c.loop-i.i;
    }

pub returns : goal.returns
returns c =
    let done : c.loop-i.i ≡ c.args.k = omega arith in
    c.loop-i.invariant.known ∙ ap (counted_in c.args.file.now) done
