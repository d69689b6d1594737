-- `tests::is_good` is the specification's `good_at`.
use borrow.Author.Rules.{rules}
use borrow.Author.Tests.{eq-eqb}
use mathlib.Core.Bool.{not}
use mathlib.Core.Path.{◌≡◌, ◌∙◌}
use Rattle.std.specs.Option.{is_some}
use Rattle.rules.specs.Tests.{cause_of, cause_at, good_at}
use Rattle.rules.proofs.tests.is_good.Goals as goal

pub returns-then-slots-at-eq0 : goal.returns-then-slots-at-eq0
unfolding good_at cause_at cause_of
returns-then-slots-at-eq0 c = simp (eq-eqb _ _ c.if-slots-at-eq0.true)

pub returns : goal.returns
unfolding good_at cause_at
returns c =
    let e : c.is_none.result ≡ not (is_some c.cause_of.result) = search rules in
    e ∙ (rw c.cause_of.ensures)
