-- `filing::against_slot`: 11, else the version rule with the content compared as a pair.
use mathlib.Core.Bool.{true, false}
use mathlib.Core.Path.{◌≡◌, sym, ◌∙◌}
use Rattle.book.specs.Cells.{slot_fault}
use Rattle.book.specs.Filling.{against_slot}
use Rattle.book.proofs.filing.against_slot.Goals as goal

pub returns-then-slot_fault : goal.returns-then-slot_fault
unfolding against_slot
returns-then-slot_fault c =
    let a = c.args in
    let fault : slot_fault a.old_version a.old_value a.old_status ≡ true = sym c.slot_fault.ensures ∙ c.if-slot_fault.true in
    rw fault

pub returns : goal.returns
unfolding against_slot
returns c =
    let a = c.args in
    let clean : slot_fault a.old_version a.old_value a.old_status ≡ false = sym c.slot_fault.ensures
    ∙ c.if-slot_fault.false in
    rw (clean, sym c.eq-same.ensures) c.by_version.ensures
