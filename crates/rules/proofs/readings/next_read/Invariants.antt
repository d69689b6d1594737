-- `readings::next_read`. From boundary d on the answer is that from the start.
use mathlib.Core.Path.{◌≡◌}
use Prim.Native.Nat.{◌-◌}
use lib.ListN.{length}
use Rattle.rules.specs.Spans.{next_read}
use Rattle.rules.proofs.readings.next_read.Given as goal

abbrev pub invariant-loop-d : goal.invariant-loop-d
invariant-loop-d l = let n = length l.read_versions in
    next_read l.read_versions l.from (n - l.from) ≡ next_read l.read_versions l.d (n - l.d)
