-- `file::writer::put_trailer` meets its contract.
use mathlib.Core.Path.{◌∙◌}
use Prim.Native.Nat.{◌+◌}
use native.Mathlib.Omega.{arith}
use lib.ListN.{take, drop}
use borrow.Author.Rules.{rules}
use Rattle.file.specs.Layout.{trailer_row}
use Rattle.file.proofs.Written.{rows}
use Rattle.file.proofs.writer.put_trailer.Goals as goal

pub returns : goal.returns
returns c =
    let put-head = c.put_head in
    let put-counts = c.put_counts in
    let a = c.args in
    let row = trailer_row a.g in
    put-counts.ensures ∙ rows a.buf.now put-head.new.buf a.at (a.at + 8) (take 5 row) (drop 5 row) put-head.ensures
    (omega arith) (search rules)
