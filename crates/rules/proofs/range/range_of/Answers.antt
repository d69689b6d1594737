-- `range::range_of`: round the dial, or down to 0 at most.
use borrow.Author.Tests.{le-leb, lt-leb}
use Rattle.rules.specs.Spans.{range_of}
use Rattle.rules.proofs.range.range_of.Goals as goal

pub returns-then-highest-ge-DIAL_MODULUS : goal.returns-then-highest-ge-DIAL_MODULUS
unfolding range_of
returns-then-highest-ge-DIAL_MODULUS c = rw (le-leb _ _ c.if-highest-ge-DIAL_MODULUS.true)

pub returns : goal.returns
unfolding range_of
returns c = rw (lt-leb _ _ c.if-highest-ge-DIAL_MODULUS.false, c.saturating_sub.ensures)
