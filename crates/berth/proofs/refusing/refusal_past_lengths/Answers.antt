-- `refusing::refusal_past_lengths`: 7, 20 and 21 in this order.
use borrow.Author.Tests.{lt-ltb, le-ltb, eq-eqb, ne_eqb}
use Rattle.berth.proofs.refusing.refusal_past_lengths.Goals as goal

pub returns-then-room-file_size : goal.returns-then-room-file_size
returns-then-room-file_size c = rw (lt-ltb _ _ (rw c.file_size.ensures at c.if-room-file_size.true))

pub returns-then-seed-eq0 : goal.returns-then-seed-eq0
returns-then-seed-eq0 c = rw (le-ltb _ _ (rw c.file_size.ensures at c.if-room-file_size.false), eq-eqb _ _ c.if-seed-eq0.true)

pub returns-then-loss-gt1000 : goal.returns-then-loss-gt1000
returns-then-loss-gt1000 c =
    rw (
      le-ltb _ _ (rw c.file_size.ensures at c.if-room-file_size.false),
      ne_eqb _ _ c.if-seed-eq0.false,
      lt-ltb _ _ c.if-loss-gt1000.true,
    )

pub returns : goal.returns
returns c =
    rw (
      le-ltb _ _ (rw c.file_size.ensures at c.if-room-file_size.false),
      ne_eqb _ _ c.if-seed-eq0.false,
      le-ltb _ _ c.if-loss-gt1000.false,
    )
