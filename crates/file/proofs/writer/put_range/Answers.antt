-- `file::writer::put_range` meets its contract.
use mathlib.Core.Bool.{true}
use mathlib.Core.Path.{◌∙◌}
use Prim.Native.Nat.{◌+◌}
use native.Mathlib.Omega.{arith}
use lib.ListN.{take}
use Rattle.file.specs.Layout.{span_row}
use Rattle.file.proofs.Written.{row_last, row_next}
use Rattle.file.proofs.writer.put_range.Goals as goal

pub returns : goal.returns
returns c =
    let a = c.args in
    let row = span_row true a.span in
    let r1 = c.put.ensures ∙ row_last a.buf.now a.at 2 a.span.first in
    let r2 = row_next a.buf.now _ _ a.at (a.at + 2) 2 a.span.last (take 1 row) r1 c.put-2.ensures (omega arith)
    (omega arith) in
    let r3 = row_next a.buf.now _ _ a.at (a.at + 4) 4 a.span.lowest (take 2 row) r2 c.put-3.ensures (omega arith)
    (omega arith) in
    row_next a.buf.now _ _ a.at (a.at + 8) 4 a.span.highest (take 3 row) r3 c.put-4.ensures (omega arith)
    (omega arith)
