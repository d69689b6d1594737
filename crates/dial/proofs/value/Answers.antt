-- `value`: ten times the upper half and the lower one.
use native.Mathlib.Omega.{arith}
use Rattle.dial.proofs.value.Goals as goal

pub returns : goal.returns
returns c = (omega arith, omega arith)
