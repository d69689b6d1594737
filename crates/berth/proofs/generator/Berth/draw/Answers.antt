-- `generator::Berth::draw`: the code's xors and shifts are the specification's.
use mathlib.Core.Path.{refl}
use Rattle.berth.specs.Generator.{draw}
use Rattle.berth.proofs.generator.Berth.draw.Goals as goal

pub returns : goal.returns
unfolding draw
returns c = refl
