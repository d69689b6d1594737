-- The ten lists that opening sets to zeros.
use mathlib.Core.Path.{◌≡◌}
use mathlib.Core.List.{List}
use Prim.Native.Nat.{ℕ, suc}
use lib.ListN.{replicate}
use Rattle.rules.specs.declared.Head.{Head}
use Rattle.rules.specs.Opening.{slot_count}
use Rattle.rules.specs.Lent.{slots, agreed_lists, cells}
use Rattle.book.specs.Opening.{opened}
use Rattle.book.proofs.EachCall.{book}

-- ten lists of zeros are those of an opened book
pub opened_lists : (h : Head) {values versions statuses holidays readings read_versions agreed agreed-versions counts widths : List ℕ}
    → values ≡ replicate (slot_count h) 0 → versions ≡ replicate (slot_count h) 0 → statuses ≡ replicate (slot_count h) 0
    → holidays ≡ replicate h.days 0 → readings ≡ replicate (suc h.days) 0 → read_versions ≡ replicate (suc h.days) 0
    → agreed ≡ replicate (slot_count h) 0 → agreed-versions ≡ replicate (slot_count h) 0
    → counts ≡ replicate h.days 0 → widths ≡ replicate (suc h.days) 0
    → book (cells (slots values versions statuses) holidays readings read_versions (agreed_lists agreed agreed-versions) widths) counts
    ≡ opened h
unfolding opened
opened_lists h values versions statuses holidays readings read_versions agreed agreed-versions counts widths = λ t. record {
  cells = record {
    slots = record { values = values t; versions = versions t; statuses = statuses t };
    holidays = holidays t;
    readings = readings t;
    read_versions = read_versions t;
    agreed = record { values = agreed t; versions = agreed-versions t };
    widths = widths t;
  };
  counts = counts t;
}
