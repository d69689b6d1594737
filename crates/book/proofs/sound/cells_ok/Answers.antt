-- `sound::cells_ok` looks at slots, days, boundaries and agreed slots.
use mathlib.Core.Bool.{true, false, and-true}
use mathlib.Core.Path.{◌≡◌, sym, ◌∙◌}
use Prim.Native.Nat.{suc}
use Rattle.base.specs.Lists.{any}
use Rattle.rules.specs.Opening.{slot_count}
use Rattle.rules.specs.Lent.{cells_in}
use Rattle.book.specs.Cells.{slot_fault_at, day_fault_at, read_fault_at, agreed_fault_at, reads_of, cells_ok}
use Rattle.book.proofs.Fits.{lengths_of}
use Rattle.book.proofs.sound.cells_ok.Goals as goal

pub bad_slot-requires : goal.bad_slot-requires
bad_slot-requires c =
    let a = c.args in
    let b = cells_in a.cells.now in
    let l = lengths_of a.head b c.requires in
    (l.versions ∙ sym l.values, l.statuses ∙ sym l.values)

pub returns-then-bad_slot : goal.returns-then-bad_slot
unfolding cells_ok
returns-then-bad_slot c =
    let a = c.args in
    let b = cells_in a.cells.now in
    let l = lengths_of a.head b c.requires in
    let s : any (slot_fault_at b.slots) 0 (slot_count a.head) ≡ true =
    rw l.values at (sym c.bad_slot.ensures ∙ c.if-bad_slot.true) in
    rw s

pub returns-then-bad_day : goal.returns-then-bad_day
unfolding cells_ok
returns-then-bad_day c =
    let a = c.args in
    let b = cells_in a.cells.now in
    let l = lengths_of a.head b c.requires in
    let s : any (slot_fault_at b.slots) 0 (slot_count a.head) ≡ false =
    rw l.values at (sym c.bad_slot.ensures ∙ c.if-bad_slot.false) in
    let d : any (day_fault_at b.holidays) 0 a.head.days ≡ true =
    rw l.holidays at (sym c.bad_day.ensures ∙ c.if-bad_day.true) in
    rw (s, d)

pub bad_read-requires : goal.bad_read-requires
bad_read-requires c =
    let a = c.args in
    let b = cells_in a.cells.now in
    let l = lengths_of a.head b c.requires in
    (l.read_versions ∙ sym l.readings, l.widths ∙ sym l.readings)

pub returns-then-bad_read : goal.returns-then-bad_read
unfolding cells_ok
returns-then-bad_read c =
    let a = c.args in
    let b = cells_in a.cells.now in
    let l = lengths_of a.head b c.requires in
    let s : any (slot_fault_at b.slots) 0 (slot_count a.head) ≡ false =
    rw l.values at (sym c.bad_slot.ensures ∙ c.if-bad_slot.false) in
    let d : any (day_fault_at b.holidays) 0 a.head.days ≡ false =
    rw l.holidays at (sym c.bad_day.ensures ∙ c.if-bad_day.false) in
    let r : any (read_fault_at (reads_of b)) 0 (suc a.head.days) ≡ true =
    rw l.readings at (sym c.bad_read.ensures ∙ c.if-bad_read.true) in
    rw (s, d, r)

pub bad_agreed-requires : goal.bad_agreed-requires
bad_agreed-requires c =
    let a = c.args in
    let b = cells_in a.cells.now in
    let l = lengths_of a.head b c.requires in
    l.agreed_versions ∙ sym l.agreed

pub returns : goal.returns
unfolding cells_ok
returns c =
    let a = c.args in
    let b = cells_in a.cells.now in
    let l = lengths_of a.head b c.requires in
    let s : any (slot_fault_at b.slots) 0 (slot_count a.head) ≡ false =
    rw l.values at (sym c.bad_slot.ensures ∙ c.if-bad_slot.false) in
    let d : any (day_fault_at b.holidays) 0 a.head.days ≡ false =
    rw l.holidays at (sym c.bad_day.ensures ∙ c.if-bad_day.false) in
    let r : any (read_fault_at (reads_of b)) 0 (suc a.head.days) ≡ false =
    rw l.readings at (sym c.bad_read.ensures ∙ c.if-bad_read.false) in
    let g : any (agreed_fault_at b.agreed) 0 (slot_count a.head) ≡ c.bad_agreed.result =
    rw l.agreed at (sym c.bad_agreed.ensures) in
    rw (s, d, r, g, and-true)
