-- "Any table of a whole number of days goes there and back, starting from either side."
use mathlib.Core.Bool.{true}
use mathlib.Core.List.{List}
use mathlib.Core.Path.{◌≡◌, refl, sym, ap, ap₂, ◌∙◌}
use Prim.Native.Nat.{ℕ, zero, suc, ◌+◌, ◌-◌, ◌*◌, ◌/◌, ◌%◌, ◌<◌}
use native.Mathlib.Nat.{mod-lt, not-suc-le-zero}
use native.Mathlib.Omega.{arith}
use borrow.Author.Tests.{eq-eqb}
use lib.Dec.{lit<, eqb}
use lib.ListN.{length, get_or}
use Rattle.base.specs.Lists.{up_to}
use Rattle.base.proofs.Lists.{length_up_to}
use Rattle.rules.proofs.Bounds.{interval_bounds}
use Rattle.strips.specs.Strips.{slots_of, record_byte, in_table, in_strips, value_at, stored_at, strips_of, day_earlier, difference_at}
use Rattle.strips.specs.Strips.{difference_in, restored_value, restored_at, table_of, per_day, lengths_ok, laid_answer, laid_after}
use Rattle.strips.specs.Claim.{Bytes, Returns, ThereAndBack, BackAndThere}
use Rattle.strips.proofs.Numbers.{number_cong, number_lt, number_record, record_number, record_again, add_difference}
use Rattle.strips.proofs.Numbers.{difference_added}
use Rattle.strips.proofs.Answers.{accepts}
use Rattle.strips.proofs.Lengths.{whole_records}
use Rattle.strips.proofs.Places.{strip_place, place_strip, up_to_at, up_to_all}
use Rattle.strips.proofs.Days.{earlier_cong, earlier_lt, restored_next, restored_lt}

length_strips : (n : ℕ) (table : List ℕ) → length (strips_of n table) ≡ length table
unfolding strips_of
length_strips n table = length_up_to _ 0 (length table)

length_table : (n : ℕ) (strips : List ℕ) → length (table_of n strips) ≡ length strips
unfolding table_of
length_table n strips = length_up_to _ 0 (length strips)

module _ (n : ℕ) (positive : 0 < n) (given : List ℕ) (whole : length given ≡ 6 * slots_of given) (bytes : Bytes given) where
  strips_at : (i k : ℕ) → i < slots_of given → k < 6 → in_strips (strips_of n given) i k ≡ stored_at n given i k
  strips_at i k l m =
      let (inside, slot, byte) = strip_place (slots_of given) i k l m in
      ap (λ (x : ℕ). get_or (strips_of n given) (i + k * (x / 6)) 0) (length_strips n given) ∙ at (i + k * slots_of given) (omega arith)
      ∙ ap₂ (stored_at n given) slot byte
    where
      at : (p : ℕ) → p < length given → get_or (strips_of n given) p 0 ≡ stored_at n given (p % slots_of given) (p / slots_of given)
      at p inside = unfold strips_of in up_to_at (λ p. stored_at n given (p % slots_of given) (p / slots_of given)) (length given) p inside

  table_at : (i k : ℕ) → i < slots_of given → k < 6 → in_table (table_of n given) i k ≡ restored_at n given i k
  unfolding table_of
  table_at i k l m =
      let slot : (6 * i + k) / 6 ≡ i = omega arith in
      let byte : (6 * i + k) % 6 ≡ k = omega arith in
      up_to_at (λ p. restored_at n given (p / 6) (p % 6)) (length given) (6 * i + k) (omega arith) ∙ ap₂ (restored_at n given) slot byte

  -- from a table: the strips hold its differences, and their sums are its values
  stored_difference : (i : ℕ) → i < slots_of given → difference_in (strips_of n given) i ≡ difference_at n given i
  stored_difference i l =
      number_cong (in_strips (strips_of n given) i) (stored_at n given i) (λ k m. strips_at i k l (omega arith))
      ∙ number_record (difference_at n given i) (in_table given i) (unfold difference_at in mod-lt _ (lit< tt))

  value_restored : (m i : ℕ) → i < m → i < slots_of given → restored_value n (strips_of n given) i ≡ value_at given i
  unfolding difference_at
  value_restored zero i l inside = absurd (not-suc-le-zero l)
  value_restored (suc m) i l inside =
      let low : (j : ℕ) → value_at given j < 4_294_967_296 = λ j. number_lt (in_table given j) (λ k. bytes (6 * j + k)) in
      sym (restored_next n positive (strips_of n given) i)
      ∙ ap₂ (λ (x y : ℕ). (x + y) % 4_294_967_296)
      (earlier_cong n (restored_value n (strips_of n given)) (value_at given) i (λ le. value_restored m (i - n) (omega arith)
      (omega arith)))
      (stored_difference i inside)
      ∙ add_difference (day_earlier n (value_at given) i) (value_at given i) (earlier_lt n (value_at given) i low) (low i)

  pub table_of_strips : table_of n (strips_of n given) ≡ given
  unfolding table_of
  table_of_strips =
      ap (λ (m : ℕ). up_to (λ p. restored_at n (strips_of n given) (p / 6) (p % 6)) 0 m) (length_strips n given)
      ∙ up_to_all (λ p. restored_at n (strips_of n given) (p / 6) (p % 6)) given place
    where
      place : (p : ℕ) → p < length given → restored_at n (strips_of n given) (p / 6) (p % 6) ≡ get_or given p 0
      place p l =
          let i : ℕ = p / 6 in
          let k : ℕ = p % 6 in
          let inside : p / 6 < slots_of given = omega arith in
          let here : 6 * (p / 6) + p % 6 ≡ p = omega arith in
          ap (λ (v : ℕ). record_byte v (in_strips (strips_of n given) i) k) (value_restored (suc i) i (omega arith) inside)
          ∙ record_again (value_at given i) (difference_at n given i) (in_strips (strips_of n given) i) (in_table given i) k
          (strips_at i k inside (omega arith))
          ∙ record_number (in_table given i) (λ j. bytes (6 * i + j)) k ∙ ap (λ (x : ℕ). get_or given x 0) here

  -- from strips: the table holds the sums, and their differences are those of the strips
  value_held : (i : ℕ) → i < slots_of given → value_at (table_of n given) i ≡ restored_value n given i
  value_held i l =
      number_cong (in_table (table_of n given) i) (restored_at n given i) (λ k m. table_at i k l (omega arith))
      ∙ number_record (restored_value n given i) (in_strips given i) (restored_lt n given i)

  difference_held : (i : ℕ) → i < slots_of given → difference_at n (table_of n given) i ≡ difference_in given i
  unfolding difference_at
  difference_held i l =
      ap₂ (λ (x y : ℕ). (x + 4_294_967_296 - y) % 4_294_967_296) (value_held i l ∙ sym (restored_next n positive given i))
      (earlier_cong n (value_at (table_of n given)) (restored_value n given) i (λ le. value_held (i - n) (omega arith)))
      ∙ difference_added (day_earlier n (restored_value n given) i) (difference_in given i)
      (earlier_lt n (restored_value n given) i (restored_lt n given))
      (number_lt (in_strips given i) (λ k. bytes (i + k * slots_of given)))

  pub strips_of_table : strips_of n (table_of n given) ≡ given
  unfolding strips_of
  strips_of_table =
      ap (λ (m : ℕ). up_to (λ p. stored_at n (table_of n given) (p % (m / 6)) (p / (m / 6))) 0 m) (length_table n given)
      ∙ up_to_all (λ p. stored_at n (table_of n given) (p % slots_of given) (p / slots_of given)) given place
    where
      place : (p : ℕ) → p < length given → stored_at n (table_of n given) (p % slots_of given) (p / slots_of given) ≡ get_or given p 0
      place p l =
          let i : ℕ = p % slots_of given in
          let k : ℕ = p / slots_of given in
          let inside : p < 6 * slots_of given = omega arith in
          let (slot, byte, here) = place_strip (slots_of given) p inside in
          ap (λ (v : ℕ). record_byte v (in_table (table_of n given) i) k) (difference_held i slot)
          ∙ record_again (difference_in given i) (restored_value n given i) (in_table (table_of n given) i) (in_strips given i) k
          (table_at i k slot byte)
          ∙ record_number (in_strips given i) (λ j. bytes (i + j * slots_of given)) k ∙ ap (λ (x : ℕ). get_or given x 0) here

-- the same of two calls that lay what f and g give
module _ (f g : ℕ → List ℕ → List ℕ)
    (lengths : (n : ℕ) (given : List ℕ) → length (f n given) ≡ length given)
    (inverse : (n : ℕ) → 0 < n → (given : List ℕ) → length given ≡ 6 * slots_of given → Bytes given → g n (f n given) ≡ given) where
  calls : Returns (λ interval given out. laid_after interval given (f (per_day interval) given) out)
      (λ interval given out. laid_after interval given (g (per_day interval) given) out)
  unfolding lengths_ok
  calls interval given out back bytes allowed days room room' =
      let n : ℕ = per_day interval in
      let positive : 0 < per_day interval = omega (arith, interval_bounds interval allowed) in
      let same : eqb (length given) (length given) ≡ true = eq-eqb (length given) (length given) refl in
      let first : lengths_ok (per_day interval) (length given) (length out) ≡ true = rw (room, days, same) in
      let second : lengths_ok (per_day interval) (length (f n given)) (length back) ≡ true = rw (lengths n given, room', days, same) in
      let (a, e) = accepts interval given out (f n given) (f n given) allowed first refl in
      let (b, h) = accepts interval (f n given) back (g n (f n given)) (g n (f n given)) allowed second refl in
      record {
        accepted = sym a;
        accepted_back = ap (λ (x : List ℕ). laid_answer interval (length x) (length back)) (sym e) ∙ sym b;
        restored =
            ap (λ (x : List ℕ). laid_after interval x (g n x) back) (sym e) ∙ sym h
            ∙ inverse n positive given (whole_records n (length given) days) bytes;
      }

pub there_and_back : ThereAndBack
there_and_back = calls strips_of table_of length_strips table_of_strips

pub back_and_there : BackAndThere
back_and_there = calls table_of strips_of length_table strips_of_table
