-- The Gregorian calendar from 2000-01-01, which is day number 0, to 2099-12-31 (01, Opening).
use Rattle.std.specs.Prelude.{Bool, cond, not, ◌&&◌, ◌||◌, List, [], ◌∷◌, ℕ, zero, suc, ◌+◌, ◌-◌, ◌%◌, leb, ltb, eqb, get_or}
use Rattle.base.specs.Lists.{sum}
use Rattle.calendar.specs.declared.Date.{Date}
use Rattle.calendar.specs.declared.Place.{Place}

-- the days from 2000-01-01 to 2099-12-31
abbrev pub day_count : ℕ
day_count = 36_525

-- the full Gregorian rule
unfoldable pub leap : ℕ → Bool
leap y = eqb (y % 4) 0 && (not (eqb (y % 100) 0) || eqb (y % 400) 0)

-- January to December, of a leap year or another
unfoldable pub month_lengths : Bool → List ℕ
month_lengths b = 31 ∷ cond b 29 28 ∷ 31 ∷ 30 ∷ 31 ∷ 30 ∷ 31 ∷ 31 ∷ 30 ∷ 31 ∷ 30 ∷ 31 ∷ []

-- months are counted from 1
unfoldable pub month_length : ℕ → ℕ → ℕ
month_length y m = get_or (month_lengths (leap y)) (m - 1) 0

unfoldable pub year_length : ℕ → ℕ
year_length y = cond (leap y) 366 365

-- the days of the k months before month k + 1
unfoldable pub days_before_month : ℕ → ℕ → ℕ
days_before_month y k = sum (month_length y) 1 k

-- the days of the k years from 2000
unfoldable pub days_before_year : ℕ → ℕ
days_before_year k = sum year_length 2000 k

unfoldable pub day_number : ℕ → ℕ → ℕ → ℕ
day_number y m d = days_before_year (y - 2000) + days_before_month y (m - 1) + (d - 1)

-- a date from 2000-01-01 to 2099-12-31
unfoldable pub is_date : ℕ → ℕ → ℕ → Bool
is_date y m d = leb 2000 y && leb y 2099 && leb 1 m && leb m 12 && leb 1 d && leb d (month_length y m)

-- lengths f at, f (at + 1), .. are taken off n while they fit, at most k: the place come to, and what is left of n
unfoldable pub place : (ℕ → ℕ) → ℕ → ℕ → ℕ → Place
place f zero at n = record { at = at; left = n }
place f (suc k) at n = cond (ltb n (f at)) (record { at = at; left = n }) (place f k (suc at) (n - f at))

-- year lengths are taken off from 2000 on, then that year's month lengths from January on; days are counted from 1
unfoldable pub date_of : ℕ → Date
date_of n =
    let year = place year_length 99 2000 n in
    let month = place (month_length year.at) 11 1 year.left in
    record { year = year.at; month = month.at; day = month.left + 1 }

-- Sunday is 0 and Saturday 6; day 0, 2000-01-01, was a Saturday (02, W3)
abbrev pub weekday : ℕ → ℕ
weekday n = (n + 6) % 7

-- the days from day n back to the nearest Sunday strictly before it
unfoldable pub to_sunday : ℕ → ℕ
to_sunday n = cond (eqb (weekday n) 0) 7 (weekday n)
