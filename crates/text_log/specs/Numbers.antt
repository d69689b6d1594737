-- Numbers and dates of a log.
use Rattle.std.specs.Prelude.{Bool, true, not, cond, ◌&&◌, List, [], ◌∷◌, ℕ, ◌+◌, ◌-◌, ◌*◌, leb, eqb, length, get_or, take, drop}
use Rattle.std.specs.Prelude.{Option, Some, None}
use Rattle.base.specs.Lists.{every}
use Rattle.text_log.specs.declared.number.Date.{Date}

-- `0` to `9`
abbrev pub is_digit : ℕ → Bool
is_digit b = leb 48 b && leb b 57

unfoldable pub are_digits : List ℕ → Bool
are_digits [] = true
are_digits (b ∷ bs) = is_digit b && are_digits bs

-- the value of the digits, the highest first, after those with the value n
unfoldable pub value_after : ℕ → List ℕ → ℕ
value_after n [] = n
value_after n (b ∷ bs) = value_after (10 * n + (b - 48)) bs

abbrev pub value_of : List ℕ → ℕ
value_of word = value_after 0 word

-- one or more digits, whose value is at most 4,294,967,295; leading zeros are taken
unfoldable pub is_number : List ℕ → Bool
is_number word = every (not (eqb (length word) 0) ∷ are_digits word ∷ leb (value_of word) 4294967295 ∷ [])

unfoldable pub number_of : List ℕ → Option ℕ
number_of word = cond (is_number word) (Some (value_of word)) None

-- year, month and day of a date
abbrev pub year_part : List ℕ → List ℕ
year_part word = take 4 word

abbrev pub month_part : List ℕ → List ℕ
month_part word = take 2 (drop 5 word)

abbrev pub day_part : List ℕ → List ℕ
day_part word = take 2 (drop 8 word)

-- four digits, `-`, two digits, `-`, two digits
unfoldable pub is_date_word : List ℕ → Bool
is_date_word word =
    every
    (eqb (length word) 10
    ∷ eqb (get_or word 4 0) 45
    ∷ eqb (get_or word 7 0) 45
    ∷ is_number (year_part word)
    ∷ is_number (month_part word)
    ∷ is_number (day_part word)
    ∷ [])

-- year, month and day
abbrev pub date_in : List ℕ → Date
date_in word = record { year = value_of (year_part word); month = value_of (month_part word); day = value_of (day_part word) }

unfoldable pub date_of_word : List ℕ → Option Date
date_of_word word = cond (is_date_word word) (Some (date_in word)) None
