-- `days::add_day`: after k turns k totals have the day added.
use mathlib.Core.Bool.{cond}
use Prim.Native.Nat.{◌+◌}
use lib.ListN.{get_or}
use Rattle.totals.specs.Inner.Adding.{holds}
use Rattle.totals.specs.Stays.{first_of, end_of}
use Rattle.totals.proofs.Replaced.{Replaced}
use Rattle.totals.proofs.days.add_day.Given as goal

abbrev pub invariant-loop-k : goal.invariant-loop-k
invariant-loop-k l = Replaced (λ j. get_or l.initial.totals j 0 + cond (holds (first_of l.pairs j) (end_of l.pairs j) l.day) l.energy 0)
    l.initial.totals l.totals l.k
