-- `pairs::pairs_fit`: the test of all pairs is that of the pairs from the turn on.
use mathlib.Core.Path.{◌≡◌}
use Prim.Native.Nat.{◌-◌}
use Rattle.base.specs.Lists.{all}
use Rattle.totals.specs.Stays.{pair_count, first_of, end_of, pair_ok, pairs_ok}
use Rattle.totals.proofs.pairs.pairs_fit.Given as goal

abbrev pub invariant-loop-pair : goal.invariant-loop-pair
invariant-loop-pair l =
    pairs_ok l.days l.pairs
    ≡ all (λ j. pair_ok l.days (first_of l.pairs j) (end_of l.pairs j)) l.pair-index (pair_count l.pairs - l.pair-index)
