-- `checks::all_of`: all bytes are left to be tested.
use borrow.Author.Rules.{rules}
use mathlib.Core.Path.{sym, ◌∙◌}
use native.Mathlib.Nat.{sub-zero}
use native.Mathlib.Omega.{arith}
use lib.ListN.{get_or}
use Rattle.base.proofs.Sums.{all_more, all_fails, all_done}
use Rattle.market.specs.Export.{all_of}
use Rattle.market.proofs.checks.all_of.Goals as goal

pub loop-byte-init : goal.loop-byte-init
unfolding all_of
loop-byte-init g c k told = rw sub-zero

pub returns-then-not-test : goal.returns-then-not-test
returns-then-not-test g c k told =
    sym (c.loop-byte.invariant k told
    ∙ all_fails _ c.loop-byte.byte-index _ (search rules)
    (sym (told (get_or c.args.text.now c.loop-byte.byte-index 0) _
    (omega (arith, (c.type_inv.text c.loop-byte.byte-index).fits)) c.test.ensures) ∙ c.if-not-test.true))

pub loop-byte-preserved : goal.loop-byte-preserved
loop-byte-preserved g c k told =
    c.loop-byte.invariant k told
    ∙ all_more _ c.loop-byte.byte-index _ (search rules)
    (sym (told (get_or c.args.text.now c.loop-byte.byte-index 0) _
    (omega (arith, (c.type_inv.text c.loop-byte.byte-index).fits)) c.test.ensures) ∙ c.if-not-test.false)

pub returns : goal.returns
returns g c k told = sym (c.loop-byte.invariant k told ∙ all_done _ c.loop-byte.byte-index _ (search rules))
