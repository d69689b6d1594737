-- `marks::are_all_alike` meets its contract.
use borrow.Author.Rules.{rules}
use mathlib.Core.Path.{sym, ap₂, ◌∙◌}
use native.Mathlib.Nat.{sub-zero}
use Rattle.base.proofs.Sums.{all_more, all_fails, all_done}
use Rattle.market.specs.Fields.{alike, one_mark}
use Rattle.market.proofs.marks.are_all_alike.Goals as goal

pub loop-j-init : goal.loop-j-init
unfolding one_mark
loop-j-init c = rw sub-zero

pub returns-then-not-are_alike : goal.returns-then-not-are_alike
returns-then-not-are_alike c =
    sym (c.loop-j.invariant
    ∙ all_fails _ c.loop-j.j _ (search rules)
    (sym (c.are_alike.ensures ∙ ap₂ alike c.mark_at-first.ensures c.mark_at.ensures)
    ∙ c.if-not-are_alike.true))

pub loop-j-preserved : goal.loop-j-preserved
loop-j-preserved c =
    c.loop-j.invariant
    ∙ all_more _ c.loop-j.j _ (search rules)
    (sym (c.are_alike.ensures ∙ ap₂ alike c.mark_at-first.ensures c.mark_at.ensures) ∙ c.if-not-are_alike.false)

pub returns : goal.returns
returns c = sym (c.loop-j.invariant ∙ all_done _ c.loop-j.j _ (search rules))
