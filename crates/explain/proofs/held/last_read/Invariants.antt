-- `held::last_read`. From boundary d back the answer is that from the day.
use mathlib.Core.Path.{◌≡◌}
use Rattle.rules.specs.Spans.{last_read}
use Rattle.explain.proofs.Holding.{last_below}
use Rattle.explain.proofs.held.last_read.Given as goal

abbrev pub invariant-loop-d : goal.invariant-loop-d
invariant-loop-d l = last_read l.read_versions l.day ≡ last_below l.read_versions l.d
