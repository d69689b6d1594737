-- `lengths::days_fit`: D long.
use mathlib.Core.Bool.{and-true}
use Rattle.book.specs.Cells.{all_long}
use Rattle.book.proofs.lengths.days_fit.Goals as goal

pub returns : goal.returns
unfolding all_long
returns c = rw and-true
