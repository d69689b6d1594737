-- `body_length` meets its contract.
use mathlib.Core.Path.{ap, ◌∙◌}
use native.Mathlib.Nat.{zero-add}
use Rattle.line.specs.Inner.Writing.{capped}
use Rattle.market.proofs.body_length.Goals as goal

pub returns : goal.returns
returns c = c.put_body.ensures.next ∙ ap capped (zero-add _)
