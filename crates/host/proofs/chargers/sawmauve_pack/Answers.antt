-- `sawmauve_pack`: the answer of packing as its code, and the bytes as packing leaves them.
use mathlib.Core.Path.{ap, ◌∙◌}
use Rattle.base.specs.Refusals.{code_of}
use Rattle.host.proofs.chargers.sawmauve_pack.Goals as goal

pub returns : goal.returns
returns c = (c.code_of.ensures ∙ ap code_of c.pack.ensures.0, c.pack.ensures.1)
