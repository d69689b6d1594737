-- `sending::most_of`: the product is small.
use native.Mathlib.Omega.{arith}
use Rattle.berth.specs.Steps.{most_of}
use Rattle.berth.proofs.Sends.{limit_fits}
use mathlib.Core.Path.{refl}
use Rattle.berth.proofs.sending.most_of.Goals as goal

pub overflow_mul-result : goal.overflow_mul-result
overflow_mul-result c = record { fits = omega (arith, limit_fits _ c.requires) }

pub returns : goal.returns
unfolding most_of
returns c = refl
