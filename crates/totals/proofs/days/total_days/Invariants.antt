-- `days::total_days`: before day d the totals are those of the days before it.
use mathlib.Core.Path.{◌≡◌}
use Rattle.totals.specs.Inner.Adding.{totals_before}
use Rattle.totals.proofs.days.total_days.Given as goal

abbrev pub invariant-loop-day : goal.invariant-loop-day
invariant-loop-day l = l.totals ≡ totals_before l.file l.n l.pairs l.day
