-- `cells::day_fault` is `day_fault`.
use mathlib.Core.Path.{refl}
use Rattle.book.specs.Cells.{day_fault}
use Rattle.book.proofs.cells.day_fault.Goals as goal

pub returns : goal.returns
unfolding day_fault
returns c = refl
