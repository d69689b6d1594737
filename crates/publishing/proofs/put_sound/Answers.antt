-- `put_sound` refuses a short buffer, and then writes the file.
use Prim.Native.Nat.{◌+◌, ◌*◌, ◌≤◌}
use native.Mathlib.Omega.{arith}
use lib.ListN.{length}
use Rattle.rules.specs.Opening.{slot_count}
use Rattle.rules.specs.Spans.{spans}
use Rattle.rules.specs.Lent.{cells_in}
use Rattle.publishing.proofs.Publishing.{whole_of, spans_found, spans_low, length_found, refused_7, long_enough}
use Rattle.publishing.proofs.put_sound.Goals as goal

pub length_of-length-requires : goal.length_of-length-requires
length_of-length-requires c =
    let a = c.args in
    let b = cells_in a.cells.now in
    (c.requires.head, spans_low a.head b c.requires _ c.span_count-spans.ensures)

pub returns-then-out-length : goal.returns-then-out-length
returns-then-out-length c =
    let a = c.args in
    let b = cells_in a.cells.now in
    refused_7 a.head b a.out.now _
    (length_found a.head b c.requires _ c.span_count-spans.ensures _ c.length_of-length.ensures)
    c.if-out-length.true

pub put_file-requires : goal.put_file-requires
put_file-requires c =
    let a = c.args in
    let b = cells_in a.cells.now in
    let m = spans_found a.head b c.requires _ c.span_count-spans.ensures in
    let room : 6 * slot_count a.head + 14 * length (spans a.head b) + 32 ≤ length a.out.now =
    omega (arith, m, c.if-out-length.false, c.length_of-length.ensures) in
    (record { whole = whole_of a.head b c.requires; room = room }, m)

pub returns : goal.returns
returns c =
    let a = c.args in
    let b = cells_in a.cells.now in
    long_enough a.head b a.out.now _
    (length_found a.head b c.requires _ c.span_count-spans.ensures _
    c.length_of-length.ensures) c.if-out-length.false _ c.put_file.ensures
