-- `line::line_of`: the line of an entry.
use mathlib.Core.Path.{ap}
use Rattle.text_log.specs.declared.line.Entry.{Entry}
use Rattle.text_log.proofs.line.line_of.Goals as goal

pub returns : goal.returns
returns c = ap (λ (x : Entry). x.line) c.entry_of.ensures
