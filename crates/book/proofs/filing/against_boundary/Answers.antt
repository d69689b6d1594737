-- `filing::against_boundary`: 11, else the version rule with the content compared as a pair.
use mathlib.Core.Bool.{true, false}
use mathlib.Core.Path.{◌≡◌, sym, ◌∙◌}
use Rattle.book.specs.Cells.{read_fault}
use Rattle.book.specs.Filling.{against_boundary}
use Rattle.book.proofs.filing.against_boundary.Goals as goal

pub returns-then-read_fault : goal.returns-then-read_fault
unfolding against_boundary
returns-then-read_fault c =
    let a = c.args in
    let fault : read_fault a.old_version a.old_reading a.old_width ≡ true = sym c.read_fault.ensures ∙ c.if-read_fault.true in
    rw fault

pub returns : goal.returns
unfolding against_boundary
returns c =
    let a = c.args in
    let clean : read_fault a.old_version a.old_reading a.old_width ≡ false = sym c.read_fault.ensures
    ∙ c.if-read_fault.false in
    rw (clean, sym c.eq-same_read.ensures) c.by_version.ensures
