-- `spans::compare` computes as the specification does.
use native.Mathlib.Omega.{arith}
use lib.ListN.{get_or}
use Rattle.rules.proofs.Ranges.{advance_below}
use Rattle.rules.specs.Inner.Summaries.{compared_with}
use Rattle.rules.proofs.spans.compare.Goals as goal

pub range_of-range-requires : goal.range_of-range-requires
range_of-range-requires c =
    let a = c.args in
    let l = advance_below (get_or a.readings.now a.first 0) (get_or a.readings.now a.last 0) in
    omega (arith, c.advanced-advance.ensures, l)

pub returns : goal.returns
unfolding compared_with
returns c =
    rw (
      c.state_of.ensures,
      c.least_in-r.ensures,
      c.range_of-range.ensures,
      c.advanced-advance.ensures,
    )
