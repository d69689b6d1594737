-- `unpack`: one byte after the other is looked at; where no half is above 9, the reading is that of the four bytes.
use mathlib.Core.Path.{◌≡◌}
use lib.ListN.{drop}
use Rattle.dial.specs.Dial.{above_nine}
use Rattle.dial.proofs.unpack.Given as goal

abbrev pub invariant-loop-byte : goal.invariant-loop-byte
invariant-loop-byte l = above_nine l.bytes ≡ above_nine (drop l.byte-index l.bytes)
