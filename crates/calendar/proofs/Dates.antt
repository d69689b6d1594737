-- Dates and day numbers are one to one.
use mathlib.Core.Bool.{Bool, true, false, cond}
use mathlib.Core.Path.{◌≡◌, refl, sym, ap, ◌∙◌}
use Prim.Native.Nat.{ℕ, ◌+◌, ◌-◌, ◌≤◌, ◌<◌}
use native.Mathlib.Nat.{add-sub_cancel, add-sub_cancel_left}
use native.Mathlib.Omega.{arith}
use borrow.Author.Tests.{le-leb}
use lib.ListN.{get_or}
use Rattle.base.specs.Lists.{sum}
use Rattle.calendar.specs.declared.Date.{Date}
use Rattle.calendar.specs.Calendar.{leap, month_lengths, month_length, year_length, days_before_month, days_before_year, day_number}
use Rattle.calendar.specs.Calendar.{is_date}
use Rattle.calendar.specs.Calendar.{date_of}
use Rattle.calendar.proofs.Bounds.{bounded}
use Rattle.calendar.proofs.Places.{within, below, found}

year_whole : (y : ℕ) → sum (month_length y) 1 12 ≡ year_length y
unfolding sum month_length month_lengths year_length
year_whole y = of (leap y)
  where
    of : (b : Bool) → sum (λ m. get_or (month_lengths b) (m - 1) 0) 1 12 ≡ cond b 366 365
    of true = refl
    of false = refl

calendar_whole : sum year_length 2000 100 ≡ 36_525
unfolding sum year_length leap
calendar_whole = refl

early_years : sum year_length 2000 98 ≡ 35795
unfolding sum year_length leap
early_years = refl

-- whole years from 2000, whole months of the next year and whole days of the next month that have passed
record Passed : Type 0 where
  years : ℕ
  months : ℕ
  days : ℕ
  years_high : years ≤ 99
  months_high : months ≤ 11
  days_high : days < month_length (2000 + years) (1 + months)

abbrev date_after : Passed → Date
date_after p = record { year = 2000 + p.years; month = 1 + p.months; day = p.days + 1 }

abbrev days_of_year : Passed → ℕ
days_of_year p = sum (month_length (2000 + p.years)) 1 p.months + p.days

abbrev number_after : Passed → ℕ
number_after p = sum year_length 2000 p.years + days_of_year p

module _ (p : Passed) where
  in_year : days_of_year p < year_length (2000 + p.years)
  in_year = rw year_whole at (below (month_length (2000 + p.years)) p.months 11 1 p.days p.months_high p.days_high)

  in_calendar : number_after p < 36_525
  in_calendar = rw calendar_whole at (below year_length p.years 99 2000 (days_of_year p) p.years_high in_year)

  date_after_lem : date_of (number_after p) ≡ date_after p
  unfolding date_of
  date_after_lem =
      rw (
        found year_length p.years 99 2000 (days_of_year p) p.years_high in_year,
        found (month_length (2000 + p.years)) p.months 11 1 p.days p.months_high p.days_high,
      )

  number_after_lem : day_number (2000 + p.years) (1 + p.months) (p.days + 1) ≡ number_after p
  unfolding day_number days_before_year days_before_month
  number_after_lem = rw (add-sub_cancel_left 2000 p.years, add-sub_cancel_left 1 p.months, add-sub_cancel p.days 1) (omega arith)

  is_date_after : is_date (2000 + p.years) (1 + p.months) (p.days + 1) ≡ true
  unfolding is_date
  is_date_after =
      let y = 2000 + p.years in
      let m = 1 + p.months in
      let d = p.days + 1 in
      rw (
        le-leb 2000 y (omega arith),
        le-leb y 2099 (omega arith),
        le-leb 1 m (omega arith),
        le-leb m 12 (omega arith),
        le-leb 1 d (omega arith),
        le-leb d (month_length y m) (omega arith),
      )

each_date : (P : ℕ → ℕ → ℕ → Type 0) → ((p : Passed) → P (2000 + p.years) (1 + p.months) (p.days + 1)) → (y m d : ℕ)
    → is_date y m d ≡ true → P y m d
each_date P f y m d e =
    let b = bounded y m d e in
    let ey : 2000 + (y - 2000) ≡ y = omega arith in
    let em : 1 + (m - 1) ≡ m = omega arith in
    let ed : d - 1 + 1 ≡ d = omega arith in
    rw (ey, em, ed) at (f record {
      years = y - 2000;
      months = m - 1;
      days = d - 1;
      years_high = omega arith;
      months_high = omega arith;
      days_high = rw (ey, em) (omega arith);
    })

each_number : (P : ℕ → Type 0) → ((p : Passed) → P (number_after p)) → (n : ℕ) → n < 36_525 → P n
each_number P f n h =
    let y = within year_length 99 2000 n (rw calendar_whole h) in
    let m = within (month_length (2000 + y.j)) 11 1 y.r (rw year_whole y.short) in
    rw (m.whole, y.whole) at (f record {
      years = y.j;
      months = m.j;
      days = m.r;
      years_high = y.near;
      months_high = m.near;
      days_high = m.short;
    })

pub last_day : (y m d : ℕ) → is_date y m d ≡ true → day_number y m d < 36_525
last_day = each_date (λ y m d. day_number y m d < 36_525) (λ p. rw (number_after_lem p) (in_calendar p))

-- day 35,794 is 2097-12-31
pub early_day : (y m d : ℕ) → is_date y m d ≡ true → y < 2098 → day_number y m d < 35795
early_day =
    each_date (λ y m d. (y < 2098 → day_number y m d < 35795))
    (λ p early. rw (number_after_lem p) (rw early_years at (below year_length p.years 97 2000 (days_of_year p) (omega arith) (in_year p))))

pub date_of_number : (y m d : ℕ) → is_date y m d ≡ true → date_of (day_number y m d) ≡ record { year = y; month = m; day = d }
date_of_number =
    each_date (λ y m d. date_of (day_number y m d) ≡ record { year = y; month = m; day = d })
    (λ p. rw (number_after_lem p) (date_after_lem p))

pub number_of_date : (n : ℕ) → n < 36_525
    → (is_date (date_of n).year (date_of n).month (date_of n).day ≡ true)
    × (day_number (date_of n).year (date_of n).month (date_of n).day ≡ n)
number_of_date =
    each_number (λ n. (is_date (date_of n).year (date_of n).month (date_of n).day ≡ true)
    × (day_number (date_of n).year (date_of n).month (date_of n).day ≡ n))
    (λ p. rw (date_after_lem p) (is_date_after p, number_after_lem p))

pub one_date : (y m d y' m' d' : ℕ) → is_date y m d ≡ true → is_date y' m' d' ≡ true → day_number y m d ≡ day_number y' m' d'
    → (y ≡ y') × (m ≡ m') × (d ≡ d')
one_date y m d y' m' d' p q e =
    let s = sym (date_of_number y m d p) ∙ ap date_of e ∙ date_of_number y' m' d' q in
    (ap (λ (x : Date). x.year) s, ap (λ (x : Date). x.month) s, ap (λ (x : Date). x.day) s)
