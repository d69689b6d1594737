-- `file::slots::is_form`: letters are bytes, so one number tells both.
use borrow.Author.Rules.{rules}
use Rattle.file.proofs.Counts.{form_one}
use Rattle.file.proofs.slots.is_form.Goals as goal

pub returns : goal.returns
returns c =
    let a = c.args in
    form_one a.slot.letter a.slot.method a.letter a.method (search rules) (search rules)
