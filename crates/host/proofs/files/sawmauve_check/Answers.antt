-- `sawmauve_check`: the code of the reader's verdict.
use mathlib.Core.Path.{ap, ◌∙◌}
use Rattle.base.specs.Refusals.{code_of}
use Rattle.host.proofs.files.sawmauve_check.Goals as goal

pub returns : goal.returns
returns c = c.code_of.ensures ∙ ap code_of c.read.ensures
