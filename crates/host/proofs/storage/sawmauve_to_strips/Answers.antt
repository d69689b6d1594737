-- `sawmauve_to_strips`: the answer of `strips::to_strips` as its code, and the output as it leaves it.
use mathlib.Core.Path.{ap, ◌∙◌}
use Rattle.base.specs.Refusals.{code_of}
use Rattle.host.proofs.storage.sawmauve_to_strips.Goals as goal

pub returns : goal.returns
returns c =
    let laid = c.to_strips.ensures in
    (c.code_of.ensures ∙ ap code_of laid.0, laid.1)
