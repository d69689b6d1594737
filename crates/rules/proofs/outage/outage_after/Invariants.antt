-- `outage::outage_after`. From slot j on the answer is that from the start.
use mathlib.Core.Path.{◌≡◌}
use Prim.Native.Nat.{◌-◌}
use lib.ListN.{length}
use Rattle.rules.specs.Filling.{outage_after}
use Rattle.rules.proofs.outage.outage_after.Given as goal

abbrev pub invariant-loop-j : goal.invariant-loop-j
invariant-loop-j l = let n = length l.versions in
    outage_after l.versions l.statuses l.start (n - l.start) ≡ outage_after l.versions l.statuses l.j (n - l.j)
