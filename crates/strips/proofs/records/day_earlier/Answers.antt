-- `records::day_earlier`: 0 on the first day, else the value n slots before.
use mathlib.Core.Path.{◌∙◌}
use Prim.Native.Nat.{◌-◌, ◌≤◌, ◌<◌}
use native.Mathlib.Omega.{arith}
use borrow.Author.Tests.{lt-ltb, le-ltb}
use lib.Dec.{lit<}
use Rattle.strips.specs.Strips.{day_earlier}
use Rattle.strips.proofs.Numbers.{table_value}
use Rattle.strips.proofs.records.day_earlier.Goals as goal

pub returns-then-i-n : goal.returns-then-i-n
unfolding day_earlier
returns-then-i-n c =
    let first : c.args.i < c.args.n = omega arith in
    (rw (lt-ltb _ _ first), lit< tt)

pub returns : goal.returns
unfolding day_earlier
returns c =
    let a = c.args in
    let later : a.n ≤ a.i = omega arith in
    (rw (le-ltb _ _ later) (c.value.ensures.0 ∙ table_value a.table.now (a.i - a.n)), c.value.ensures.1)
