-- `sound::book_ok` looks at the cells, then at the counts.
use mathlib.Core.Path.{◌≡◌, sym, ◌∙◌}
use Rattle.base.specs.Lists.{any}
use Rattle.book.specs.Cells.{count_fault_at, book_ok}
use Rattle.book.specs.Lent.{book_in}
use Rattle.book.proofs.Fits.{lengths_of, fits_of}
use Rattle.book.proofs.sound.book_ok.Goals as goal

pub cells_ok-requires : goal.cells_ok-requires
cells_ok-requires c =
    let a = c.args in
    (fits_of a.head (book_in a.book.now) c.requires.1).0

pub returns-then-not-cells_ok : goal.returns-then-not-cells_ok
unfolding book_ok
returns-then-not-cells_ok c = rw (sym c.cells_ok.ensures ∙ c.if-not-cells_ok.true)

pub bad_count-requires : goal.bad_count-requires
bad_count-requires c =
    let a = c.args in
    let b = book_in a.book.now in
    let fits = fits_of a.head b c.requires.1 in
    (c.requires.0, (lengths_of a.head b.cells fits.0).versions, fits.1)

pub returns : goal.returns
unfolding book_ok
returns c =
    let a = c.args in
    let b = book_in a.book.now in
    let fits = fits_of a.head b c.requires.1 in
    let found : any (count_fault_at a.head a.book.now.cells.slots.versions.now a.book.now.counts.now) 0 a.head.days ≡ c.bad_count.result =
    rw fits.1 at (sym c.bad_count.ensures) in
    rw (sym c.cells_ok.ensures ∙ c.if-not-cells_ok.false, found)
