-- `filing::against_agreed`: 11, else the version rule.
use mathlib.Core.Bool.{true, false}
use mathlib.Core.Path.{◌≡◌, sym, ◌∙◌}
use Rattle.book.specs.Cells.{agreed_fault}
use Rattle.book.specs.Filling.{against_agreed}
use Rattle.book.proofs.filing.against_agreed.Goals as goal

pub returns-then-number_fault : goal.returns-then-number_fault
unfolding against_agreed
returns-then-number_fault c =
    let a = c.args in
    let fault : agreed_fault a.old_version a.old_value ≡ true = sym c.number_fault.ensures ∙ c.if-number_fault.true in
    rw fault

pub returns : goal.returns
unfolding against_agreed
returns c =
    let a = c.args in
    let clean : agreed_fault a.old_version a.old_value ≡ false = sym c.number_fault.ensures
    ∙ c.if-number_fault.false in
    rw clean c.by_version.ensures
