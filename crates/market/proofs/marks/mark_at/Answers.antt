-- `marks::mark_at` meets its contract.
use mathlib.Core.Path.{sym, ◌∙◌}
use Rattle.file.proofs.Offsets.{slot_at_lem}
use Rattle.market.specs.Fields.{mark_of}
use Rattle.market.proofs.marks.mark_at.Goals as goal

pub returns-then-not-has_code : goal.returns-then-not-has_code
unfolding mark_of
returns-then-not-has_code c = rw (slot_at_lem _ _, sym c.has_code.ensures ∙ c.if-not-has_code.true)

pub returns : goal.returns
unfolding mark_of
returns c = rw (slot_at_lem _ _, sym c.has_code.ensures ∙ c.if-not-has_code.false, c.code_for.ensures)
