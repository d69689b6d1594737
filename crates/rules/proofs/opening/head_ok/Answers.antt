-- `opening::head_ok` tests in the order of the specification.
use mathlib.Core.Path.{sym, ◌∙◌}
use borrow.Author.Tests.{le-leb, lt-leb}
use mathlib.Core.Bool.{and-true}
use Rattle.rules.specs.Opening.{head_ok}
use Rattle.rules.proofs.opening.head_ok.Goals as goal

pub returns-then-not-is_interval : goal.returns-then-not-is_interval
unfolding head_ok
returns-then-not-is_interval c = simp (sym c.is_interval.ensures ∙ c.if-not-is_interval.true)

pub returns-then-not-are_days : goal.returns-then-not-are_days
unfolding head_ok
returns-then-not-are_days c =
    rw (
      sym c.is_interval.ensures ∙ c.if-not-is_interval.false,
      sym c.are_days.ensures ∙ c.if-not-are_days.true,
    )

pub returns-then-head-lt1 : goal.returns-then-head-lt1
unfolding head_ok
returns-then-head-lt1 c =
    rw (
      sym c.is_interval.ensures ∙ c.if-not-is_interval.false,
      sym c.are_days.ensures ∙ c.if-not-are_days.false,
      lt-leb _ _ c.if-head-lt1.true,
    )

pub returns-then-head-gt-MOST_LIMIT : goal.returns-then-head-gt-MOST_LIMIT
unfolding head_ok
returns-then-head-gt-MOST_LIMIT c =
    rw (
      sym c.is_interval.ensures ∙ c.if-not-is_interval.false,
      sym c.are_days.ensures ∙ c.if-not-are_days.false,
      le-leb _ _ c.if-head-lt1.false,
      lt-leb _ _ c.if-head-gt-MOST_LIMIT.true,
    )

pub returns : goal.returns
unfolding head_ok
returns c =
    rw (
      sym c.is_interval.ensures ∙ c.if-not-is_interval.false,
      sym c.are_days.ensures ∙ c.if-not-are_days.false,
      le-leb _ _ c.if-head-lt1.false,
      le-leb _ _ c.if-head-gt-MOST_LIMIT.false,
      and-true,
    )
