-- `lengths::lists_fit` looks at each length.
use Rattle.book.specs.Cells.{slots_fit, days_fit, reads_fit, agreed_fits, cells_fit, counts_fit, book_fits}
use Rattle.book.proofs.lengths.lists_fit.Goals as goal

pub returns : goal.returns
unfolding cells_fit slots_fit days_fit reads_fit agreed_fits counts_fit book_fits
returns c = c.book_fits.ensures
