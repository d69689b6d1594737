-- `spans::share_of`: T × C fits 64 bits.
use mathlib.Core.Path.{refl}
use Rattle.rules.specs.Spans.{share}
use Rattle.rules.proofs.spans.share_of.Goals as goal

pub returns : goal.returns
unfolding share
returns c = refl
