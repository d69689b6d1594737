-- `sound::agreed_fault` is `agreed_fault` word for word.
use mathlib.Core.Path.{refl}
use Rattle.book.specs.Cells.{number_fault}
use Rattle.book.proofs.sound.agreed_fault.Goals as goal

pub returns : goal.returns
unfolding number_fault
returns c = refl
