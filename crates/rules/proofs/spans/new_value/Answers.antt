-- `spans::new_value`: shares grow, and none is above T.
use native.Mathlib.Omega.{arith}
use Rattle.rules.proofs.Shares.{share_grows, share_high}
use Rattle.rules.proofs.spans.new_value.Goals as goal

pub overflow_sub-result : goal.overflow_sub-result
overflow_sub-result c =
    rw (c.share_of-2.ensures, c.share_of.ensures) (share_grows _ _ _ _ c.requires.4 c.requires.1)

pub overflow_cast-result : goal.overflow_cast-result
overflow_cast-result c =
    omega (arith, share_high c.args.t c.args.c c.args.e c.requires.2, c.share_of.ensures)
