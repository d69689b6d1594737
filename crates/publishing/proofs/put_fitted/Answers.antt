-- `put_fitted` refuses cells and counts that no calls could leave.
use mathlib.Core.Path.{sym, ◌∙◌}
use Rattle.base.proofs.Logic.{and_parts}
use Rattle.book.specs.Cells.{book_ok}
use Rattle.book.specs.Lent.{book_in}
use Rattle.book.proofs.Fits.{fits_of}
use Rattle.publishing.proofs.Publishing.{refused_11, put_left}
use Rattle.publishing.proofs.put_fitted.Goals as goal

pub book_ok-requires : goal.book_ok-requires
book_ok-requires c = c.requires

pub returns-then-not-book_ok : goal.returns-then-not-book_ok
returns-then-not-book_ok c =
    let a = c.args in
    let b = book_in a.book.now in
    refused_11 a.head b a.out.now c.requires.0 c.requires.1 (sym c.book_ok.ensures ∙ c.if-not-book_ok.true)

pub put_sound-requires : goal.put_sound-requires
unfolding book_ok
put_sound-requires c =
    let a = c.args in
    let b = book_in a.book.now in
    record {
      head = c.requires.0;
      fit = (fits_of a.head b c.requires.1).0;
      cells = (and_parts _ _ (sym c.book_ok.ensures ∙ c.if-not-book_ok.false)).0;
    }

pub returns : goal.returns
returns c =
    let a = c.args in
    let b = book_in a.book.now in
    put_left a.head b a.out.now c.requires.0 c.requires.1
    (sym c.book_ok.ensures ∙ c.if-not-book_ok.false)
    _ _ c.put_sound.ensures
