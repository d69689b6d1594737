-- `file::writer::put_slot` meets its contract.
use mathlib.Core.Path.{◌∙◌, ap}
use Prim.Native.Nat.{ℕ, ◌+◌}
use native.Mathlib.Omega.{arith}
use lib.ListN.{take}
use Rattle.file.specs.Inner.Writing.{written}
use Rattle.file.specs.Layout.{letter, bytes, slot_row}
use Rattle.file.proofs.Written.{row_last, row_next}
use Rattle.file.proofs.writer.put_slot.Goals as goal

pub returns : goal.returns
returns c =
    let put = c.put in
    let letter-of = c.letter_of in
    let put2 = c.put-2 in
    let put3 = c.put-3 in
    let a = c.args in
    let fits = c.requires in
    let row = slot_row a.slot in
    let r1 = put.ensures ∙ row_last a.buf.now a.at 4 a.slot.value in
    let second = put2.ensures ∙ ap (λ (x : ℕ). written put.new.buf (a.at + 4) (bytes 1 x)) letter-of.ensures in
    let r2 = row_next a.buf.now _ _ a.at (a.at + 4) 1 (letter a.slot.quality) (take 1 row) r1 second (omega arith)
    (omega arith) in
    row_next a.buf.now _ _ a.at (a.at + 5) 1 a.slot.method (take 2 row) r2 put3.ensures (omega arith) (omega arith)
