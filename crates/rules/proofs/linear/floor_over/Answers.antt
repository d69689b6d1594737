-- `linear::floor_over`: one less than the quotient where the remainder is negative.
use Prim.Native.Nat.{◌<◌, ◌^◌}
use Rattle.rules.proofs.Floors.{down_read, whole_read}
use borrow.Author.Rules.{rules}
use Rattle.rules.proofs.linear.floor_over.Goals as goal
use Rattle.rules.proofs.linear.floor_over.Goals.{Start}

small : (c : Start) → c.args.m < 2 ^ 32
small c = search rules

pub returns-then-z-d-lt0 : goal.returns-then-z-d-lt0
returns-then-z-d-lt0 c = down_read c.args.z c.ranges.z c.args.m (small (goal.at.returns-then-z-d-lt0 c).Start) c.requires c.if-z-d-lt0.true

pub returns : goal.returns
returns c = whole_read c.args.z c.ranges.z c.args.m (small (goal.at.returns c).Start) c.requires c.if-z-d-lt0.false
