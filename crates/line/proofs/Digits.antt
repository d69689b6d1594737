-- Decimal digits: how many there are.
use mathlib.Core.Bool.{Bool, true, false, cond}
use mathlib.Core.List.{[], ◌∷◌}
use mathlib.Core.Path.{◌≡◌, refl, ◌∙◌}
use Prim.Native.Nat.{ℕ, zero, suc, ◌+◌, ◌-◌, ◌/◌, ◌%◌, ◌≤◌, ◌<◌}
use native.Mathlib.Omega.{arith}
use borrow.Author.Tests.{lt-ltb, le-ltb}
use lib.Dec.{ltb}
use lib.ListN.{length, length-append}
use Rattle.line.specs.Line.{digits, places}

pub length_digits : (k n : ℕ) → length (digits k n) ≡ k
unfolding digits
length_digits zero n = refl
length_digits (suc k) n = length-append (digits k (n / 10)) ((48 + n % 10) ∷ []) ∙ rw (length_digits k (n / 10)) (omega arith)

-- a number below 10 has one digit
pub places_small : (k n : ℕ) → n < 10 → places k n ≡ 1
unfolding places
places_small zero n l = refl
places_small (suc k) n l = rw (lt-ltb n 10 l)

-- another has one more than its tenth
pub places_more : (k n : ℕ) → k < 20 → 10 ≤ n → places (20 - k) n ≡ suc (places (20 - (k + 1)) (n / 10))
unfolding places
places_more k n l m =
    let e : 20 - k ≡ suc (20 - (k + 1)) = omega arith in
    rw (e, le-ltb n 10 m)

pub places_last : (n : ℕ) → places 0 n ≡ 1
unfolding places
places_last n = refl

-- at most one more than are enough
pub places_le : (k n : ℕ) → places k n ≤ suc k
unfolding places
places_le zero n = omega arith
places_le (suc k) n = by_size (ltb n 10) (places k (n / 10)) (places_le k (n / 10))
  where
    by_size : (small : Bool) (rest : ℕ) → rest ≤ suc k → cond small 1 (suc rest) ≤ suc (suc k)
    by_size true rest l = omega arith
    by_size false rest l = omega arith
