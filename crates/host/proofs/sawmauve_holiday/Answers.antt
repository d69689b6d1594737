-- `sawmauve_holiday`: the answer of a holiday as its code, and the list as the holiday leaves it.
use mathlib.Core.Path.{ap, ◌∙◌}
use Rattle.book.specs.Answers.{answer_code}
use Rattle.host.proofs.sawmauve_holiday.Goals as goal

pub returns : goal.returns
returns c =
    let h = rw c.head_of-head.ensures at c.holiday.ensures in
    (c.filed_code.ensures ∙ ap answer_code h.0, h.1)
