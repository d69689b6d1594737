-- `lengths::book_fits` asks for the cells' lists and the counts.
use mathlib.Core.Path.{sym, ◌∙◌}
use Rattle.book.proofs.lengths.book_fits.Goals as goal

pub returns-then-not-cells_fit : goal.returns-then-not-cells_fit
returns-then-not-cells_fit c = rw (sym c.cells_fit.ensures ∙ c.if-not-cells_fit.true)

pub returns : goal.returns
returns c = rw (sym c.cells_fit.ensures ∙ c.if-not-cells_fit.false) c.days_fit.ensures
