-- The table of month starts, and its rule: each entry is the sum of the month lengths before it (02, W4).
use mathlib.Core.Bool.{Bool}
use mathlib.Core.List.{List, [], ◌∷◌}
use mathlib.Core.Path.{◌≡◌, refl}
use Prim.Native.Nat.{ℕ, suc, ◌+◌, ◌-◌, ◌≤◌, ◌<◌}
use native.Mathlib.Omega.{arith}
use lib.ListN.{get_or}
use mir.Val.{bool_byte}
use Rattle.base.specs.Lists.{sum}
use Rattle.calendar.specs.Calendar.{leap, month_lengths, month_length, days_before_month}
use Rattle.calendar.proofs.Table.{both_agreed}

-- the source's `MONTH_STARTS`
abbrev pub month_starts : List (List ℕ)
month_starts =
    (0 ∷ 31 ∷ 59 ∷ 90 ∷ 120 ∷ 151 ∷ 181 ∷ 212 ∷ 243 ∷ 273 ∷ 304 ∷ 334 ∷ [])
    ∷ (0 ∷ 31 ∷ 60 ∷ 91 ∷ 121 ∷ 152 ∷ 182 ∷ 213 ∷ 244 ∷ 274 ∷ 305 ∷ 335 ∷ [])
    ∷ []

-- row 0 is that of ordinary years, row 1 that of leap years
abbrev pub month_start : Bool → ℕ → ℕ
month_start b k = get_or (get_or month_starts (bool_byte b) []) k 0

pub each_entry : (y k : ℕ) → k < 12 → month_start (leap y) k ≡ days_before_month y k
unfolding days_before_month sum month_length month_lengths
each_entry y k h = both_agreed month_start (λ b k. sum (λ m. get_or (month_lengths b) (m - 1) 0) 1 k) 12 refl (leap y) k h

-- a month starts where the one before ends
pub next_start : (y m : ℕ) → 1 ≤ m → days_before_month y (m + 1 - 1) ≡ days_before_month y (m - 1) + month_length y m
unfolding days_before_month sum
next_start y m h =
    let e : m + 1 - 1 ≡ suc (m - 1) = omega arith in
    let p : 1 + (m - 1) ≡ m = omega arith in
    rw e (rw p refl)
