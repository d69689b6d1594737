-- `file::writer::put_head` meets its contract.
use Prim.Native.Nat.{◌+◌}
use native.Mathlib.Omega.{arith}
use lib.ListN.{take}
use Rattle.file.specs.Layout.{trailer_row}
use Rattle.file.proofs.Written.{row_next}
use Rattle.file.proofs.writer.put_head.Goals as goal

pub returns : goal.returns
returns c =
    let a = c.args in
    let put-days = c.put_days in
    let put = c.put in
    let put2 = c.put-2 in
    let row = trailer_row a.g in
    let r4 = row_next a.buf.now _ _ a.at (a.at + 5) 1 a.g.layout (take 3 row) put-days.ensures put.ensures (omega arith)
    (omega arith) in
    row_next a.buf.now _ _ a.at (a.at + 6) 2 a.g.spans (take 4 row) r4 put2.ensures (omega arith) (omega arith)
