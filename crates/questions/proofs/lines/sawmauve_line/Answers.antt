-- `sawmauve_line`: the code of `file_line`'s answer, and the bytes that it leaves.
use mathlib.Core.Path.{ap, ◌∙◌}
use Rattle.base.specs.Refusals.{length_code}
use Rattle.questions.proofs.lines.sawmauve_line.Goals as goal

pub returns : goal.returns
returns c =
    (c.length_code.ensures ∙ ap length_code c.file_line.ensures.0, c.file_line.ensures.1)
