-- `file::writer::put_counts` meets its contract.
use Rattle.file.specs.Layout.{span_table_bytes}
use Rattle.file.proofs.Written.{row_five}
use Rattle.file.proofs.writer.put_counts.Goals as goal

pub returns : goal.returns
returns c =
    let a = c.args in
    row_five a.buf.now _ _ _ _ _ a.at 4 4 4 8 4 a.g.actual a.g.substituted a.g.none a.g.sum (span_table_bytes a.g)
    c.put.ensures
    c.put-2.ensures
    c.put-3.ensures
    c.put-4.ensures
    (rw c.span_bytes.ensures.0 at c.put-5.ensures)
    c.requires
