-- `explain_fitted` refuses cells and counts that no calls could leave.
use mathlib.Core.Path.{sym, ◌∙◌}
use Rattle.base.proofs.Logic.{and_parts}
use Rattle.book.specs.Cells.{book_ok}
use Rattle.book.specs.Lent.{book_in}
use Rattle.book.proofs.Fits.{fits_of}
use Rattle.publishing.proofs.Publishing.{whole_of}
use Rattle.explain.proofs.explain_fitted.Goals as goal

pub tell-requires : goal.tell-requires
unfolding book_ok
tell-requires c =
    let a = c.args in
    let b = book_in a.book.now in (
      whole_of a.head b.cells (record {
        head = c.requires.0;
        fit = (fits_of a.head b c.requires.1).0;
        cells = (and_parts _ _ (sym c.book_ok.ensures ∙ c.if-not-book_ok.false)).0;
      }),
      c.requires.2,
    )
