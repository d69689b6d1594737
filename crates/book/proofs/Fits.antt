-- Lists of the right lengths.
use mathlib.Core.Path.{◌≡◌, refl}
use mathlib.Core.Bool.{true}
use mathlib.Core.List.{List, [], ◌∷◌}
use Prim.Native.Nat.{ℕ, zero, suc}
use lib.Dec.{eqb}
use lib.ListN.{length, get_or}
use borrow.Author.Tests.{eqb-true}
use Rattle.base.proofs.Logic.{and_parts, passed}
use Rattle.rules.specs.declared.Head.{Head}
use Rattle.rules.specs.Opening.{slot_count, Cells}
use Rattle.book.specs.Cells.{Book, all_long, slots_fit, days_fit, reads_fit, agreed_fits, cells_fits, cells_fit, counts_fit, book_fits}

-- length k of those that are all n
pub long : (n : ℕ) (ls : List ℕ) → all_long n ls ≡ true → (k : ℕ) → get_or ls k n ≡ n
unfolding all_long
long n [] e k = refl
long n (l ∷ ls) e zero = eqb-true l n (and_parts (eqb l n) (all_long n ls) e).0
long n (l ∷ ls) e (suc k) = long n ls (and_parts (eqb l n) (all_long n ls) e).1 k

-- the nine lengths of lists that fit
pub record Lengths (h : Head) (b : Cells) : Type 0 where
  pub values : length b.slots.values ≡ slot_count h
  pub versions : length b.slots.versions ≡ slot_count h
  pub statuses : length b.slots.statuses ≡ slot_count h
  pub holidays : length b.holidays ≡ h.days
  pub readings : length b.readings ≡ suc h.days
  pub read_versions : length b.read_versions ≡ suc h.days
  pub agreed : length b.agreed.values ≡ slot_count h
  pub agreed_versions : length b.agreed.versions ≡ slot_count h
  pub widths : length b.widths ≡ suc h.days

pub lengths_of : (h : Head) (b : Cells) → cells_fit h b ≡ true → Lengths h b
unfolding cells_fit slots_fit days_fit reads_fit agreed_fits
lengths_of h b fit =
    let slots = long _ _ (passed (cells_fits h b) fit 0) in
    let days = long _ _ (passed (cells_fits h b) fit 1) in
    let read_versions = long _ _ (passed (cells_fits h b) fit 2) in
    let agreed = long _ _ (passed (cells_fits h b) fit 3) in
    record {
      values = slots 0;
      versions = slots 1;
      statuses = slots 2;
      holidays = days 0;
      readings = read_versions 0;
      read_versions = read_versions 1;
      agreed = agreed 0;
      agreed_versions = agreed 1;
      widths = read_versions 2;
    }

-- the cells of lists that fit do, and the counts are D long
pub fits_of : (h : Head) (b : Book) → book_fits h b ≡ true → (cells_fit h b.cells ≡ true) × (length b.counts ≡ h.days)
unfolding book_fits counts_fit
fits_of h b fit =
    let parts = and_parts (cells_fit h b.cells) (counts_fit h b.counts) fit in
    (parts.0, long _ _ parts.1 0)
