-- `sound::bad_slot`. Before each slot `bad` says whether a slot so far has a cell that no calls could leave.
use mathlib.Core.Path.{◌≡◌, sym, ap, ◌∙◌}
use Prim.Native.Nat.{zero-le}
use native.Mathlib.Omega.{arith}
use lib.ListN.{length}
use Rattle.base.specs.Lists.{any}
use Rattle.base.proofs.Sums.{any_empty}
use Rattle.rules.specs.Opening.{Slots}
use Rattle.rules.specs.Lent.{slots_in}
use Rattle.book.specs.Cells.{slot_fault_at}
use Rattle.book.proofs.Searches.{searched_on}
use Rattle.book.proofs.sound.bad_slot.Goals as goal
use Rattle.book.proofs.sound.bad_slot.Goals.{At-loop-i}

abbrev lent : At-loop-i → Slots
lent c = slots_in c.args.slots.now

pub loop-i-init : goal.loop-i-init
loop-i-init c = record { inside = zero-le; known = sym (any_empty _ _) }

pub loop-i-preserved : goal.loop-i-preserved
loop-i-preserved c =
    record {
      inside = omega arith;
      known = searched_on (slot_fault_at (lent (goal.at.loop-i-preserved c).At-loop-i)) c.loop-i.i c.loop-i.bad c.slot_fault-bad.result
          c.loop-i.invariant.known
          c.slot_fault-bad.ensures;
    }

pub returns : goal.returns
returns c =
    let e : c.loop-i.i ≡ length (lent (goal.at.returns c).At-loop-i).values = omega arith in
    c.loop-i.invariant.known ∙ ap (any (slot_fault_at (lent (goal.at.returns c).At-loop-i)) 0) e
