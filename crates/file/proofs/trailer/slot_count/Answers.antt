-- `file::trailer::slot_count` meets its contract.
use mathlib.Core.Path.{refl}
use native.Mathlib.Omega.{arith}
use Rattle.file.proofs.Head.{slots_le}
use Rattle.file.proofs.trailer.slot_count.Goals as goal

pub overflow_mul-result : goal.overflow_mul-result
overflow_mul-result c =
    let g = c.args.g in
    rw c.per_day.ensures.0 (omega (arith, slots_le g.first g.days g.interval c.requires))

pub returns : goal.returns
returns c =
    let g = c.args.g in
    rw c.per_day.ensures.0 (refl, slots_le g.first g.days g.interval c.requires)
