-- `sawmauve_deliver`: the answer of a delivery as its code, and the lists as the delivery leaves them.
use borrow.Author.Rules.{rules}
use mathlib.Core.Path.{ap, ◌∙◌}
use Rattle.book.specs.Answers.{answer_code}
use Rattle.book.proofs.EachCall.{slots_are}
use Rattle.host.proofs.sawmauve_deliver.Goals as goal

pub returns : goal.returns
returns c =
    let told = c.deliver.ensures.told in
    rw (← c.head_of-head.ensures) (
      c.filed_code.ensures ∙ ap answer_code told.0,
      slots_are c.deliver.new.slots (search rules) (search rules) (search rules) told.1,
      told.2,
    )
