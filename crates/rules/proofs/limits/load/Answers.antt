use Prim.Native.Nat.{◌<◌}
use mathlib.Core.Path.{sym, ◌∙◌}
use borrow.Author.Tests.{le-leb, lt-leb}
use Rattle.rules.specs.Limits.{load_answer}
use Rattle.rules.proofs.limits.load.Goals as goal

pub returns-then-not-table_ok : goal.returns-then-not-table_ok
unfolding load_answer
returns-then-not-table_ok c = rw (sym c.table_ok.ensures ∙ c.if-not-table_ok.true)

pub returns-then-kind-lt1 : goal.returns-then-kind-lt1
unfolding load_answer
returns-then-kind-lt1 c =
    let p : c.args.kind < 1 = c.if-kind-lt1.true in
    rw (sym c.table_ok.ensures ∙ c.if-not-table_ok.false, lt-leb _ _ p)

pub returns-then-table-place : goal.returns-then-table-place
unfolding load_answer
returns-then-table-place c =
    rw (
      sym c.table_ok.ensures ∙ c.if-not-table_ok.false,
      le-leb _ _ c.if-kind-lt1.false,
      lt-leb _ _ c.if-table-place.true,
    )

pub returns : goal.returns
unfolding load_answer
returns c =
    rw (
      sym c.table_ok.ensures ∙ c.if-not-table_ok.false,
      le-leb _ _ c.if-kind-lt1.false,
      le-leb _ _ c.if-table-place.false,
    )
