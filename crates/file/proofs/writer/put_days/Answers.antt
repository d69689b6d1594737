-- `file::writer::put_days` meets its contract.
use mathlib.Core.Path.{◌∙◌}
use Prim.Native.Nat.{◌+◌}
use native.Mathlib.Omega.{arith}
use lib.ListN.{take}
use Rattle.file.specs.Layout.{trailer_row}
use Rattle.file.proofs.Written.{row_last, row_next}
use Rattle.file.proofs.writer.put_days.Goals as goal

pub returns : goal.returns
returns c =
    let a = c.args in
    let put = c.put in
    let put2 = c.put-2 in
    let put3 = c.put-3 in
    let row = trailer_row a.g in
    let r1 = put.ensures ∙ row_last a.buf.now a.at 2 a.g.first in
    let r2 = row_next a.buf.now _ _ a.at (a.at + 2) 2 a.g.days (take 1 row) r1 put2.ensures (omega arith) (omega arith) in
    row_next a.buf.now _ _ a.at (a.at + 4) 1 a.g.interval (take 2 row) r2 put3.ensures (omega arith) (omega arith)
