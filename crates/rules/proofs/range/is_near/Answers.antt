-- `range::is_near`: `v` is not too far below the range, nor above it.
use borrow.Author.Tests.{le-leb, lt-leb}
use Rattle.rules.specs.Spans.{is_near}
use Rattle.rules.proofs.range.is_near.Goals as goal

pub returns-then-saturating_sub-tolerance : goal.returns-then-saturating_sub-tolerance
unfolding is_near
returns-then-saturating_sub-tolerance c =
    rw (c.saturating_sub-then-saturating_sub-tolerance.ensures, ← c.saturating_sub.ensures, le-leb _ _ c.if-saturating_sub-tolerance.true)

pub returns-else-saturating_sub-tolerance : goal.returns-else-saturating_sub-tolerance
unfolding is_near
returns-else-saturating_sub-tolerance c = rw (← c.saturating_sub.ensures, lt-leb _ _ c.if-saturating_sub-tolerance.false)
