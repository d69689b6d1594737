-- A number read digit by digit.
use mathlib.Core.Bool.{Bool, true, false, cond}
use mathlib.Core.List.{List, [], ◌∷◌}
use mathlib.Core.Path.{◌≡◌, refl}
use Prim.Native.Nat.{ℕ, ◌+◌, ◌-◌, ◌*◌, ◌≤◌, ◌<◌}
use native.Mathlib.Numerals.{add-one}
use native.Mathlib.Omega.{arith}
use borrow.Author.Tests.{le-leb, lt-leb, eq-eqb, ne_eqb}
use lib.Dec.{leb}
use lib.ListN.{length, get_or, drop}
use lib.Seq.{drop-cons, drop-length}
use Rattle.base.specs.Lists.{every}
use Rattle.std.specs.Prelude.{Option, Some, None}
use Rattle.text_log.specs.Numbers.{is_digit, are_digits, value_after, value_of, is_number, number_of, year_part, month_part, day_part}
use Rattle.text_log.specs.Numbers.{is_date_word, date_of_word, date_in}
use Rattle.text_log.specs.declared.number.Date.{Date}

-- the number whose digits so far have the value n, and whose other bytes are bs
unfoldable pub number_after : ℕ → List ℕ → Option ℕ
number_after n bs = cond (every (are_digits bs ∷ leb (value_after n bs) 4294967295 ∷ [])) (Some (value_after n bs)) None

pub number_empty : (word : List ℕ) → length word ≡ 0 → number_of word ≡ None
unfolding number_of is_number
number_empty [] e = refl
number_empty (b ∷ bs) e = absurd (omega arith)

pub number_starts : (word : List ℕ) → (length word ≡ 0 → ⊥) → number_of word ≡ number_after 0 (drop 0 word)
unfolding number_of is_number number_after
number_starts word n = rw (ne_eqb _ _ n)

module _ (word : List ℕ) (i n : ℕ) (l : i < length word) where
  pub number_digit : is_digit (get_or word i 0) ≡ true
      → number_after n (drop i word) ≡ number_after (10 * n + (get_or word i 0 - 48)) (drop (i + 1) word)
  unfolding number_after are_digits value_after
  number_digit e = rw (drop-cons word i 0 l, add-one, e)

  pub number_letter : is_digit (get_or word i 0) ≡ false → number_after n (drop i word) ≡ None
  unfolding number_after are_digits value_after
  number_letter e = rw (drop-cons word i 0 l, e)

-- more digits do not make a value less
value_grows : (n : ℕ) (bs : List ℕ) → n ≤ value_after n bs
unfolding value_after
value_grows n [] = omega arith
value_grows n (b ∷ bs) = let l = value_grows (10 * n + (b - 48)) bs in omega arith

pub number_over : (n : ℕ) (bs : List ℕ) → 4294967295 < n → number_after n bs ≡ None
unfolding number_after
number_over n bs l =
    let over : 4294967295 < value_after n bs = omega (arith, value_grows n bs) in
    rw (lt-leb _ _ over) (neither (are_digits bs) _)
  where
    neither : (t : Bool) (a : Option ℕ) → cond (every (t ∷ false ∷ [])) a None ≡ None
    neither true a = refl
    neither false a = refl

pub number_ends : (word : List ℕ) (n i : ℕ) → i ≡ length word → n ≤ 4294967295 → number_after n (drop i word) ≡ Some n
unfolding number_after are_digits value_after
number_ends word n i e l = rw (e, drop-length, le-leb _ _ l)

-- ---- What a word is as a number, and as a date

-- an answer that a test gives or withholds
pub chosen_none : {X : Type 0} (t : Bool) (x : X) → cond t (Some x) None ≡ None → t ≡ false
chosen_none true x e = let z : ◌≡◌ {A = ℕ} 0 1 = cc in absurd (omega arith)
chosen_none false x e = refl

pub chosen_some : {X : Type 0} (t : Bool) (x y : X) → cond t (Some x) None ≡ Some y → (t ≡ true) × (y ≡ x)
chosen_some true x y e = (refl, cc)
chosen_some false x y e = let z : ◌≡◌ {A = ℕ} 0 1 = cc in absurd (omega arith)

pub not_number : (word : List ℕ) → number_of word ≡ None → is_number word ≡ false
unfolding number_of
not_number word e = chosen_none (is_number word) _ e

pub is_number_lem : (word : List ℕ) (v : ℕ) → number_of word ≡ Some v → (is_number word ≡ true) × (v ≡ value_of word)
unfolding number_of
is_number_lem word v e = chosen_some (is_number word) _ _ e

pub not_date : (word : List ℕ) → date_of_word word ≡ None → is_date_word word ≡ false
unfolding date_of_word
not_date word e = chosen_none (is_date_word word) _ e

pub is_date_lem : (word : List ℕ) (d : Date) → date_of_word word ≡ Some d → (is_date_word word ≡ true) × (d ≡ date_in word)
unfolding date_of_word
is_date_lem word d e = chosen_some (is_date_word word) _ _ e

pub date_length : (word : List ℕ) → (length word ≡ 10 → ⊥) → date_of_word word ≡ None
unfolding date_of_word is_date_word
date_length word n = rw (ne_eqb _ _ n)

module _ (word : List ℕ) (l : length word ≡ 10) where
  pub date_first : (get_or word 4 0 ≡ 45 → ⊥) → date_of_word word ≡ None
  unfolding date_of_word is_date_word
  date_first n = rw (eq-eqb _ _ l, ne_eqb _ _ n)

  module _ (p : get_or word 4 0 ≡ 45) where
    pub date_second : (get_or word 7 0 ≡ 45 → ⊥) → date_of_word word ≡ None
    unfolding date_of_word is_date_word
    date_second n = rw (eq-eqb _ _ l, eq-eqb _ _ p, ne_eqb _ _ n)

    module _ (q : get_or word 7 0 ≡ 45) where
      pub date_year : number_of (year_part word) ≡ None → date_of_word word ≡ None
      unfolding date_of_word is_date_word
      date_year n = rw (eq-eqb _ _ l, eq-eqb _ _ p, eq-eqb _ _ q, not_number (year_part word) n)

      module _ (y : ℕ) (year : number_of (year_part word) ≡ Some y) where
        pub date_month : number_of (month_part word) ≡ None → date_of_word word ≡ None
        unfolding date_of_word is_date_word
        date_month n =
            rw (eq-eqb _ _ l, eq-eqb _ _ p, eq-eqb _ _ q, (is_number_lem (year_part word) y year).0, not_number (month_part word) n)

        module _ (m : ℕ) (month : number_of (month_part word) ≡ Some m) where
          pub date_day : number_of (day_part word) ≡ None → date_of_word word ≡ None
          unfolding date_of_word is_date_word
          date_day n =
              rw (
                eq-eqb _ _ l,
                eq-eqb _ _ p,
                eq-eqb _ _ q,
                (is_number_lem (year_part word) y year).0,
                (is_number_lem (month_part word) m month).0,
                not_number (day_part word) n,
              )

          pub date_whole : (d : ℕ) → number_of (day_part word) ≡ Some d → date_of_word word ≡ Some (record { year = y; month = m; day = d })
          unfolding date_of_word is_date_word
          date_whole d day =
              rw (
                eq-eqb _ _ l,
                eq-eqb _ _ p,
                eq-eqb _ _ q,
                (is_number_lem (year_part word) y year).0,
                (is_number_lem (month_part word) m month).0,
                (is_number_lem (day_part word) d day).0,
                (is_number_lem (year_part word) y year).1,
                (is_number_lem (month_part word) m month).1,
                (is_number_lem (day_part word) d day).1,
              )
