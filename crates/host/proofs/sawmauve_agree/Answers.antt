-- `sawmauve_agree`: the answer of an agreed call as its code, and the lists as the call leaves them.
use borrow.Author.Rules.{rules}
use mathlib.Core.Path.{ap, ◌∙◌}
use Rattle.book.specs.Answers.{answer_code}
use Rattle.book.proofs.EachCall.{agreed_are}
use Rattle.host.proofs.sawmauve_agree.Goals as goal

pub returns : goal.returns
returns c =
    let told = c.agree.ensures.told in
    rw (← c.head_of-head.ensures) (
      c.filed_code.ensures ∙ ap answer_code told.0,
      agreed_are c.agree.new.agreed (search rules) (search rules) told.1,
    )
