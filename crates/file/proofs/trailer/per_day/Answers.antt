-- `file::trailer::per_day` meets its contract.
use mathlib.Core.Path.{refl}
use native.Mathlib.Omega.{arith}
use Rattle.file.proofs.Head.{interval_pos, per_day_le}
use Rattle.file.proofs.trailer.per_day.Goals as goal

pub overflow_cast-result : goal.overflow_cast-result
overflow_cast-result c =
    omega (arith, per_day_le c.args.g.first c.args.g.days c.args.g.interval c.requires)

pub nonzero_div-result : goal.nonzero_div-result
nonzero_div-result c =
    omega (arith, interval_pos c.before.args.g.first c.before.args.g.days c.before.args.g.interval c.before.requires)

pub returns : goal.returns
returns c = (refl, per_day_le c.args.g.first c.args.g.days c.args.g.interval c.requires)
