-- `sound::bad_agreed`. Before each slot `bad` says whether an agreed slot so far has a cell that no calls could leave.
use mathlib.Core.Path.{◌≡◌, sym, ap, ◌∙◌}
use Prim.Native.Nat.{zero-le}
use native.Mathlib.Omega.{arith}
use lib.ListN.{length}
use Rattle.base.specs.Lists.{any}
use Rattle.base.proofs.Sums.{any_empty}
use Rattle.rules.specs.Opening.{Agreed}
use Rattle.rules.specs.Lent.{agreed_in}
use Rattle.book.specs.Cells.{agreed_fault_at}
use Rattle.book.proofs.Searches.{searched_on}
use Rattle.book.proofs.sound.bad_agreed.Goals as goal
use Rattle.book.proofs.sound.bad_agreed.Goals.{At-loop-i}

abbrev lent : At-loop-i → Agreed
lent c = agreed_in c.args.agreed.now

pub loop-i-init : goal.loop-i-init
loop-i-init c = record { inside = zero-le; known = sym (any_empty _ _) }

pub loop-i-preserved : goal.loop-i-preserved
loop-i-preserved c =
    record {
      inside = omega arith;
      known = searched_on (agreed_fault_at (lent (goal.at.loop-i-preserved c).At-loop-i)) c.loop-i.i c.loop-i.bad c.agreed_fault-bad.result
          c.loop-i.invariant.known
          c.agreed_fault-bad.ensures;
    }

pub returns : goal.returns
returns c =
    let e : c.loop-i.i ≡ length (lent (goal.at.returns c).At-loop-i).values = omega arith in
    c.loop-i.invariant.known ∙ ap (any (agreed_fault_at (lent (goal.at.returns c).At-loop-i)) 0) e
