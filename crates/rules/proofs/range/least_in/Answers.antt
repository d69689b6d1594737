-- `range::least_in`: below the range, in it, above it.
use borrow.Author.Tests.{le-leb, lt-leb}
use Rattle.rules.specs.Spans.{least_in}
use Rattle.rules.proofs.range.least_in.Goals as goal

pub returns-then-v-lowest : goal.returns-then-v-lowest
unfolding least_in
returns-then-v-lowest c = simp (le-leb _ _ c.if-v-lowest.true)

pub returns-then-v-highest : goal.returns-then-v-highest
unfolding least_in
returns-then-v-highest c = simp (lt-leb _ _ c.if-v-lowest.false, le-leb _ _ c.if-v-highest.true)

pub returns : goal.returns
unfolding least_in
returns c = simp (lt-leb _ _ c.if-v-lowest.false, lt-leb _ _ c.if-v-highest.false)
