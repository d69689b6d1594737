-- `above_nine`: one half byte after the other, each against 9.
use mathlib.Core.Bool.{or-false}
use mathlib.Core.Path.{sym}
use Prim.Native.Nat.{◌≤◌, ◌<◌}
use native.Mathlib.Omega.{arith}
use borrow.Author.Tests.{lt-ltb, le-ltb}
use Rattle.dial.specs.Dial.{upper, above_nine}
use Rattle.dial.proofs.above_nine.Goals as goal

pub returns-then-byte-gt9 : goal.returns-then-byte-gt9
unfolding above_nine
returns-then-byte-gt9 c =
    let above : 9 < upper c.args.byte = omega arith in
    rw (lt-ltb _ _ above)

pub returns : goal.returns
unfolding above_nine
returns c =
    let low : upper c.args.byte ≤ 9 = omega arith in
    rw (le-ltb _ _ low) (sym (or-false _))
