-- `restore_slot` writes the sum, the letter and the method of one slot.
use mathlib.Core.Path.{◌∙◌}
use Rattle.strips.specs.Inner.Laying.{restored_in}
use Rattle.strips.proofs.restore_slot.Goals as goal

pub returns : goal.returns
unfolding restored_in
returns c =
    c.put.ensures
    ∙ (simp (c.value-difference.ensures.0, c.day_earlier-earlier.ensures.0))
