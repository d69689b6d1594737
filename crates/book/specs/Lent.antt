-- The lent lists of boundaries, and all ten, as the contracts name them (01, Opening; 02, W1, W6 and W10).
use Rattle.std.specs.Prelude.{List, ℕ}
use Rattle.rules.specs.Lent.{lent_cells, cells_in}
use Rattle.book.specs.declared.Book.{Book as LentBook}
use Rattle.book.specs.Cells.{Reads, Book}

-- what the lent lists of the struct hold now
abbrev pub book_in : LentBook → Book
book_in b = record { cells = cells_in b.cells; counts = b.counts.now }

abbrev pub read_lists : List ℕ → List ℕ → List ℕ → Reads
read_lists readings read_versions widths = record { readings = readings; read_versions = read_versions; widths = widths }

abbrev pub lent_reads : List ℕ → List ℕ → List ℕ → Reads
lent_reads readings read_versions widths = read_lists readings read_versions widths

abbrev pub lent_book : List ℕ → List ℕ → List ℕ → List ℕ → List ℕ → List ℕ → List ℕ
    → List ℕ → List ℕ → List ℕ → Book
lent_book values versions statuses holidays readings read_versions agreed agreed_versions counts widths = record {
  cells = lent_cells values versions statuses holidays readings read_versions agreed agreed_versions widths;
  counts = counts;
}
