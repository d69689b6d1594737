-- `file::writer::put_span` meets its contract.
use mathlib.Core.Bool.{true}
use Prim.Native.Nat.{◌+◌}
use native.Mathlib.Omega.{arith}
use lib.ListN.{take}
use Rattle.file.specs.Layout.{span_row}
use Rattle.file.proofs.Written.{row_next}
use Rattle.file.proofs.writer.put_span.Goals as goal

pub returns : goal.returns
returns c =
    let a = c.args in
    let row = span_row true a.span in
    let r5 = row_next a.buf.now _ _ a.at (a.at + 12) 1 a.span.state (take 4 row) c.put_range.ensures
    c.put.ensures (omega arith) (omega arith) in
    row_next a.buf.now _ _ a.at (a.at + 13) 1 0 (take 5 row) r5 c.put-2.ensures (omega arith) (omega arith)
