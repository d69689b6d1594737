-- `sawmauve_unpack`: the answer of unpacking as its code.
use mathlib.Core.Path.{ap, ◌∙◌}
use Rattle.base.specs.Refusals.{number_code}
use Rattle.host.proofs.chargers.sawmauve_unpack.Goals as goal

pub returns : goal.returns
returns c = c.number_code.ensures ∙ ap number_code c.unpack.ensures
