-- The closed forms that the code computes, each tested over its years or months.
use mathlib.Core.Bool.{Bool, true, false, cond, ◌||◌}
use mathlib.Core.Path.{◌≡◌, refl}
use Prim.Native.Nat.{ℕ, ◌+◌, ◌-◌, ◌*◌, ◌/◌, ◌≤◌, ◌<◌}
use native.Mathlib.Omega.{arith}
use lib.Dec.{eqb}
use lib.ListN.{get_or, get_or-eq_default}
use Rattle.base.specs.Lists.{sum}
use Rattle.calendar.specs.Calendar.{leap, month_lengths, month_length, year_length, days_before_year}
use Rattle.calendar.proofs.Table.{agreed, both_agreed}

pub years_before : (k : ℕ) → k < 100 → days_before_year k ≡ 365 * k + (k + 3) / 4
unfolding days_before_year sum year_length leap
years_before k h = agreed days_before_year (λ k. 365 * k + (k + 3) / 4) 100 refl k h

abbrev pub length_of : Bool → ℕ → ℕ
length_of b m = cond (eqb m 2) (cond b 29 28) (cond (eqb m 4 || eqb m 6 || eqb m 9 || eqb m 11) 30 31)

pub month_length_lem : (y m : ℕ) → m < 13 → month_length y m ≡ length_of (leap y) m
unfolding month_length month_lengths
month_length_lem y m h = both_agreed (λ b m. get_or (month_lengths b) (m - 1) 0) length_of 13 refl (leap y) m h

-- a month past December has no days
pub no_month : (y m : ℕ) → 13 ≤ m → month_length y m ≡ 0
unfolding month_length month_lengths
no_month y m h =
    let past : 12 ≤ m - 1 = omega arith in
    get_or-eq_default (month_lengths (leap y)) 0 past

-- every month has 28 days
pub at_least_28 : (y m : ℕ) → m < 13 → 28 ≤ month_length y m
at_least_28 y m h = rw (month_length_lem y m h) (of (eqb m 2) (leap y) (eqb m 4 || eqb m 6 || eqb m 9 || eqb m 11))
  where
    of : (february leap thirty : Bool) → 28 ≤ cond february (cond leap 29 28) (cond thirty 30 31)
    of true true t = omega arith
    of true false t = omega arith
    of false l true = omega arith
    of false l false = omega arith
