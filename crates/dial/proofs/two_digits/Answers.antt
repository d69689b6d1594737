-- `two_digits`: the last two digits, higher one in the upper half.
use native.Mathlib.Omega.{arith}
use Rattle.dial.specs.Dial.{digit, byte_at}
use Rattle.dial.proofs.two_digits.Goals as goal

pub returns : goal.returns
unfolding byte_at digit
returns c = omega arith
