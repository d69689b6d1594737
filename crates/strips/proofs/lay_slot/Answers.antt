-- `lay_slot` writes the difference, the letter and the method of one slot.
use mathlib.Core.Path.{◌∙◌}
use Rattle.strips.specs.Strips.{difference_at}
use Rattle.strips.specs.Inner.Laying.{stored_in}
use Rattle.strips.proofs.Numbers.{table_value}
use Rattle.strips.proofs.lay_slot.Goals as goal

pub returns : goal.returns
unfolding stored_in difference_at
returns c =
    let a = c.args in
    c.put.ensures
    ∙ (simp (c.value-value.ensures.0 ∙ table_value a.table.now a.i, c.day_earlier-earlier.ensures.0))
