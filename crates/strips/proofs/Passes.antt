-- The two passes: buffers in which the first slots are written.
use mathlib.Core.List.{List}
use mathlib.Core.Path.{◌≡◌, sym, ap, ap₂, ◌∙◌}
use Prim.Native.Nat.{ℕ, ◌+◌, ◌-◌, ◌*◌, ◌/◌, ◌%◌, ◌<◌}
use native.Mathlib.Omega.{arith}
use lib.Dec.{lit<}
use lib.ListN.{length, get_or}
use Rattle.strips.specs.Strips.{slots_of, in_table, in_strips, stored_at, strips_of, value_at, day_earlier, difference_at, difference_in}
use Rattle.strips.specs.Strips.{restored_value, restored_at, table_of}
use Rattle.strips.specs.Inner.Laying.{record_of, stored_in, restored_in, Sized}
use Rattle.strips.proofs.Numbers.{number_cong, number_record, record_at}
use Rattle.strips.proofs.Places.{strip_place, place_strip, filled_to, length_filled, filled_none, filled_before, filled_all}
use Rattle.strips.proofs.Places.{filled_next}
use Rattle.strips.proofs.Days.{earlier_cong, restored_next, restored_lt}

-- strips d with the first i slots of a table
abbrev pub strips_to : ℕ → List ℕ → List ℕ → ℕ → List ℕ
strips_to n table d i =
    filled_to (λ p. p % slots_of table) (λ p. stored_at n table (p % slots_of table) (p / slots_of table)) d i

-- a table d with the first i slots of strips
abbrev pub table_to : ℕ → List ℕ → List ℕ → ℕ → List ℕ
table_to n strips d i = filled_to (λ p. p / 6) (λ p. restored_at n strips (p / 6) (p % 6)) d i

-- nothing is written yet
pub strips_none : (n : ℕ) (table d : List ℕ) → d ≡ strips_to n table d 0
strips_none n table d = filled_none _ _ d

pub table_none : (n : ℕ) (strips d : List ℕ) → d ≡ table_to n strips d 0
table_none n strips d = filled_none _ _ d

pub length_strips : (n : ℕ) (table d : List ℕ) (i : ℕ) → length (strips_to n table d i) ≡ length d
length_strips n table d i = length_filled _ _ d i

pub length_table : (n : ℕ) (strips d : List ℕ) (i : ℕ) → length (table_to n strips d i) ≡ length d
length_table n strips d i = length_filled _ _ d i

module _ (n : ℕ) (given d : List ℕ) (sized : Sized n given d) where
  pub strips_next : (i : ℕ) → i < slots_of given → stored_in n given (strips_to n given d i) i ≡ strips_to n given d (i + 1)
  unfolding stored_in
  strips_next i l =
      let count : ℕ = slots_of given in
      filled_next (λ p. p % count) (λ p. stored_at n given (p % count) (p / count)) d i i count
      (record_of (difference_at n given i) (in_table given i 4) (in_table given i 5)) (omega arith) (λ p. p / count) places slots
    where
      places : (k : ℕ) → k < 6 → (i + k * slots_of given < length d) × ((i + k * slots_of given) % slots_of given ≡ i)
      places k m = let (inside, slot, byte) = strip_place (slots_of given) i k l m in (omega arith, slot)

      slots : (p : ℕ) → p < length d → p % slots_of given ≡ i
          → (p / slots_of given < 6) × (p ≡ i + p / slots_of given * slots_of given)
          × (get_or (record_of (difference_at n given i) (in_table given i 4) (in_table given i 5)) (p / slots_of given) 0
          ≡ stored_at n given (p % slots_of given) (p / slots_of given))
      slots p m e =
          let inside : p < 6 * slots_of given = omega arith in
          let (slot, byte, here) = place_strip (slots_of given) p inside in (
            byte,
            sym here ∙ ap (λ (s : ℕ). s + p / slots_of given * slots_of given) e,
            record_at (difference_at n given i) (in_table given i) (p / slots_of given) byte
                ∙ ap (λ (s : ℕ). stored_at n given s (p / slots_of given)) (sym e),
          )

  pub strips_all : (i : ℕ) → i ≡ slots_of given → strips_to n given d i ≡ strips_of n given
  unfolding strips_of
  strips_all i e =
      filled_all (λ p. p % slots_of given) (λ p. stored_at n given (p % slots_of given) (p / slots_of given)) d i
      (λ p m. let inside : p < 6 * slots_of given = omega arith in rw e (place_strip (slots_of given) p inside).0)
      ∙ (rw sized.room)

  -- the value a day earlier, in the table as far as it is written
  earlier_written : (i : ℕ) → i < slots_of given → day_earlier n (value_at (table_to n given d i)) i ≡ day_earlier n
      (restored_value n given) i
  earlier_written i l =
      let z : 0 < n = sized.positive in
      earlier_cong n (value_at (table_to n given d i)) (restored_value n given) i
      (λ le. number_cong (in_table (table_to n given d i) (i - n)) (restored_at n given (i - n)) (written (i - n) (omega arith))
      ∙ number_record (restored_value n given (i - n)) (in_strips given (i - n)) (restored_lt n given (i - n)))
    where
      written : (j : ℕ) → j < i → (k : ℕ) → k < 4 → in_table (table_to n given d i) j k ≡ restored_at n given j k
      written j before k m =
          let place : (6 * j + k) / 6 ≡ j = omega arith in
          let byte : (6 * j + k) % 6 ≡ k = omega arith in
          filled_before (λ p. p / 6) (λ p. restored_at n given (p / 6) (p % 6)) d i (6 * j + k) (omega arith) (omega arith)
          ∙ ap₂ (restored_at n given) place byte

  pub table_next : (i : ℕ) → i < slots_of given → restored_in n given (table_to n given d i) i ≡ table_to n given d (i + 1)
  unfolding restored_in
  table_next i l =
      let value : (day_earlier n (value_at (table_to n given d i)) i + difference_in given i) % 4_294_967_296 ≡ restored_value n given i =
      ap (λ (x : ℕ). (x + difference_in given i) % 4_294_967_296) (earlier_written i l) ∙ restored_next n sized.positive given i in
      rw value (filled_next (λ p. p / 6) (λ p. restored_at n given (p / 6) (p % 6)) d i (6 * i) 1
      (record_of (restored_value n given i) (in_strips given i 4) (in_strips given i 5)) (lit< tt) (λ p. p % 6)
      (λ k m. (omega arith, omega arith))
      (λ p m e. let b : p % 6 < 6 = omega arith in (
        b,
        omega arith,
        record_at (restored_value n given i) (in_strips given i) (p % 6) b ∙ ap (λ (s : ℕ). restored_at n given s (p % 6)) (sym e),
      )))

  pub table_all : (i : ℕ) → i ≡ slots_of given → table_to n given d i ≡ table_of n given
  unfolding table_of
  table_all i e =
      filled_all (λ p. p / 6) (λ p. restored_at n given (p / 6) (p % 6)) d i (λ p m. omega arith)
      ∙ (rw sized.room)
