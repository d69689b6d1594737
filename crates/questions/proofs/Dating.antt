-- The parts of a day number's date.
use mathlib.Core.Bool.{Bool, true, false, ◌&&◌}
use mathlib.Core.List.{List, [], ◌∷◌}
use mathlib.Core.Path.{◌≡◌, refl, ap}
use Prim.Native.Nat.{ℕ, zero, suc, ◌-◌, ◌≤◌, ◌<◌}
use native.Mathlib.Omega.{arith}
use borrow.Author.Tests.{leb-true, le-leb, lt-leb}
use Rattle.std.specs.Prelude.{Ok, Err}
use Rattle.base.specs.declared.Refusal.TheVariants.{NoPlace}
use lib.Dec.{leb}
use lib.ListN.{get_or}
use Rattle.base.proofs.Logic.{and_parts}
use Rattle.calendar.specs.declared.Date.{Date}
use Rattle.calendar.specs.Calendar.{leap, month_lengths, month_length, day_count, date_of}
use Rattle.calendar.proofs.Bounds.{Bounded, bounded}
use Rattle.calendar.proofs.Dates.{number_of_date}
use Rattle.questions.specs.Naming.{date_digits, date_answer}

-- ---- Dates

abbrev at_most : ℕ → List ℕ → Bool
at_most n [] = true
at_most n (x ∷ xs) = leb x n && at_most n xs

get_d_at_most : (n : ℕ) (xs : List ℕ) → at_most n xs ≡ true → (k : ℕ) → get_or xs k 0 ≤ n
get_d_at_most n [] e k = omega arith
get_d_at_most n (x ∷ xs) e zero = leb-true x n (and_parts (leb x n) (at_most n xs) e).0
get_d_at_most n (x ∷ xs) e (suc k) = get_d_at_most n xs (and_parts (leb x n) (at_most n xs) e).1 k

pub month_at_most : (y m : ℕ) → month_length y m ≤ 31
unfolding month_length month_lengths
month_at_most y m = get_d_at_most 31 (month_lengths (leap y)) (lengths (leap y)) (m - 1)
  where
    lengths : (b : Bool) → at_most 31 (month_lengths b) ≡ true
    lengths true = refl
    lengths false = refl

pub date_bounds : (d : Date) (n : ℕ) → n < day_count → d ≡ date_of n → Bounded d.year d.month d.day
date_bounds d n l e =
    rw e (bounded (date_of n).year (date_of n).month (date_of n).day (number_of_date n (omega arith)).0)

pub no_day : (n : ℕ) → day_count ≤ n → Err NoPlace ≡ date_answer n
unfolding date_answer
no_day n l = rw (le-leb _ _ l)

pub day_told : (n : ℕ) → n < day_count → (d : Date) → d ≡ date_of n → Ok (date_digits d) ≡ date_answer n
unfolding date_answer
day_told n l d e = rw (lt-leb _ _ l) (ap (λ (x : Date). Ok (date_digits x)) e)
