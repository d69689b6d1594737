-- `line::number`: the field at the start.
use borrow.Author.Rules.{rules}
use Rattle.line.proofs.Lengths.{field_short, at_start}
use Rattle.line.proofs.number.Goals as goal

pub returns : goal.returns
returns c = at_start c.put_field.ensures (field_short _) (search rules)
