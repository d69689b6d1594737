-- `days::value_at` meets its contract.
use native.Mathlib.Omega.{arith}
use Rattle.file.proofs.Offsets.{slot_at_lem}
use Rattle.totals.proofs.days.value_at.Goals as goal

pub returns : goal.returns
returns c = rw (slot_at_lem _ _) (c.number.ensures.0, omega (arith, c.number.ensures.1))
