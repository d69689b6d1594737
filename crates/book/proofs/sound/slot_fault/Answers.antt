-- `sound::slot_fault` is `slot_fault` word for word.
use mathlib.Core.Path.{refl}
use Rattle.book.specs.Cells.{slot_fault}
use Rattle.book.proofs.sound.slot_fault.Goals as goal

pub returns : goal.returns
unfolding slot_fault
returns c = refl
