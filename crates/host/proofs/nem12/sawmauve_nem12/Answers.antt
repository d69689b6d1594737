-- `sawmauve_nem12`: the answer of the export as its code, and the buffer as it leaves it.
use mathlib.Core.Path.{ap, ◌∙◌}
use Rattle.base.specs.Refusals.{length_code}
use Rattle.host.proofs.nem12.sawmauve_nem12.Goals as goal

pub returns : goal.returns
returns c =
    let h = rw c.codes_of-codes.ensures at c.nem12.ensures in
    (c.length_code.ensures ∙ ap length_code h.0, h.1)
