-- `tests::outage_bit` is bit 1.
use mathlib.Core.Path.{refl}
use Rattle.rules.specs.Tests.{outage_bit}
use Rattle.rules.proofs.tests.outage_bit.Goals as goal

pub returns : goal.returns
unfolding outage_bit
returns c = refl
