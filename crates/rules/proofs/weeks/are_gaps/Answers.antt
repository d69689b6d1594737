-- `weeks::are_gaps`: the four tests.
use mathlib.Core.Path.{refl}
use Rattle.rules.specs.Tests.{is_gap}
use Rattle.rules.specs.Inner.Ways.{four_gaps}
use Rattle.rules.proofs.weeks.are_gaps.Goals as goal

pub returns : goal.returns
unfolding four_gaps is_gap
returns c = refl
