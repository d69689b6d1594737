-- `tables::put_inside`. Before each turn what is known and written is that of the slots so far, inside the stretch.
use Prim.Native.Nat.{◌-◌}
use Rattle.rules.specs.Lent.{cells_in}
use Rattle.publishing.proofs.Inside.{Inside}
use Rattle.publishing.proofs.tables.put_inside.Given as goal

abbrev pub invariant-loop-at : goal.invariant-loop-at
invariant-loop-at l = let b = cells_in l.cells in
    Inside l.head b l.initial.out l.from.pass.walk.at l.from.pass.stretch.until l.outage l.line l.stretch l.totals l.out l.at

abbrev pub decreases-loop-at : goal.decreases-loop-at
decreases-loop-at l = l.until - l.at
