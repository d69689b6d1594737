-- `sawmauve_stays`: the answer of `stays` as its code, and the totals as it leaves them.
use mathlib.Core.Path.{ap, ◌∙◌}
use Rattle.base.specs.Refusals.{code_of}
use Rattle.host.proofs.stays.sawmauve_stays.Goals as goal

pub returns : goal.returns
returns c = (c.code_of.ensures ∙ ap code_of c.stays.ensures.0, c.stays.ensures.1)
