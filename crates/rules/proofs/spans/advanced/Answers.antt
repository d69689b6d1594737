-- `spans::advanced` counts the dial's advance.
use mathlib.Core.Path.{refl}
use Rattle.rules.specs.Spans.{advance}
use Rattle.rules.proofs.spans.advanced.Goals as goal

pub returns : goal.returns
unfolding advance
returns c = refl
