-- `sawmauve_register`: the answer of a register read as its code, and the lists as the read leaves them.
use borrow.Author.Rules.{rules}
use mathlib.Core.Path.{ap, ◌∙◌}
use Rattle.book.specs.Answers.{answer_code}
use Rattle.book.proofs.EachCall.{reads_are}
use Rattle.host.proofs.sawmauve_register.Goals as goal

pub returns : goal.returns
returns c =
    let told = c.register.ensures.told in
    rw (← c.head_of-head.ensures) (
      c.filed_code.ensures ∙ ap answer_code told.0,
      reads_are c.register.new.reads (search rules) (search rules) (search rules) told.1,
    )
