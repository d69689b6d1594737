-- `pairs::pairs_fit`: the test of all pairs is that of the pairs from the turn on.
use mathlib.Core.Bool.{true, false}
use mathlib.Core.Path.{◌≡◌, sym, ◌∙◌}
use Prim.Native.Nat.{◌<◌}
use native.Mathlib.Omega.{arith}
use Rattle.base.proofs.Sums.{all_more, all_fails}
use Rattle.totals.specs.Stays.{pair_count, first_of, end_of, pair_ok}
use Rattle.totals.proofs.Paired.{pair_first, pair_end}
use Rattle.totals.proofs.pairs.pairs_fit.Goals as goal

pub returns-then-not-pair_ok : goal.returns-then-not-pair_ok
returns-then-not-pair_ok c =
    let i = c.loop-pair.pair-index in
    let front = c.as_chunks.ensures.front in
    let here : i < pair_count c.args.pairs.now = omega (arith, c.loop-pair-test.true, c.as_chunks.ensures.front_len) in
    let test : pair_ok c.args.days (first_of c.args.pairs.now i) (end_of c.args.pairs.now i) ≡ false =
    rw (← pair_first i _ c.args.pairs.now here (omega arith), ← pair_end i _ c.args.pairs.now here (omega arith), ← front)
    (sym c.pair_ok.ensures ∙ c.if-not-pair_ok.true) in
    sym (c.loop-pair.invariant ∙ all_fails _ _ _ (omega arith) test)

pub loop-pair-preserved : goal.loop-pair-preserved
loop-pair-preserved c =
    let i = c.loop-pair.pair-index in
    let front = c.as_chunks.ensures.front in
    let here : i < pair_count c.args.pairs.now = omega (arith, c.loop-pair-test.true, c.as_chunks.ensures.front_len) in
    let test : pair_ok c.args.days (first_of c.args.pairs.now i) (end_of c.args.pairs.now i) ≡ true =
    rw (← pair_first i _ c.args.pairs.now here (omega arith), ← pair_end i _ c.args.pairs.now here (omega arith), ← front)
    (sym c.pair_ok.ensures ∙ c.if-not-pair_ok.false) in
    c.loop-pair.invariant ∙ all_more _ _ _ (omega arith) test
