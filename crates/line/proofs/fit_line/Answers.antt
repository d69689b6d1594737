-- `line::fit_line`: 7 where the figures have no room, else they are put.
use native.Mathlib.Omega.{arith}
use Rattle.line.proofs.Lengths.{line_refused, line_fits}
use Rattle.line.proofs.fit_line.Goals as goal

pub returns-then-out-n : goal.returns-then-out-n
returns-then-out-n c = line_refused _ _ c.put_line-n.ensures c.if-out-n.true

pub returns : goal.returns
returns c =
    line_fits _ _ c.put_line-n.ensures (omega (arith, c.if-out-n.false)) c.put_line.ensures
