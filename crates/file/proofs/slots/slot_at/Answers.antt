-- `file::slots::slot_at` meets its contract.
use Rattle.file.proofs.Offsets.{slot_at_lem}
use Rattle.file.proofs.slots.slot_at.Goals as goal

pub returns : goal.returns
returns c = rw (slot_at_lem _ _, c.number.ensures.0)
