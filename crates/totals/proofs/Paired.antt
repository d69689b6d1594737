-- The pairs of a list of numbers: pair k is its places 2 * k and 2 * k + 1.
use mathlib.Core.List.{List, [], ◌∷◌}
use mathlib.Core.Path.{◌≡◌, refl}
use Prim.Native.Nat.{ℕ, zero, suc, ◌+◌, ◌*◌, ◌≤◌, ◌<◌}
use native.Mathlib.Omega.{arith}
use lib.ListN.{length, get_or}
use Rattle.std.specs.Simd.{first_chunks}

pub pair_first : (k n : ℕ) (xs : List ℕ) → k < n → 2 * n ≤ length xs
    → get_or (get_or (first_chunks 2 n xs) k []) 0 0 ≡ get_or xs (2 * k) 0
pair_first k zero xs l fit = absurd (omega arith)
pair_first k (suc n) [] l fit = absurd (omega arith)
pair_first k (suc n) (a ∷ []) l fit = absurd (omega arith)
pair_first zero (suc n) (a ∷ b ∷ xs) l fit = refl
pair_first (suc k) (suc n) (a ∷ b ∷ xs) l fit =
    let e : 2 * suc k ≡ suc (suc (2 * k)) = omega arith in
    rw e (pair_first k n xs (omega arith) (omega arith))

pub pair_end : (k n : ℕ) (xs : List ℕ) → k < n → 2 * n ≤ length xs
    → get_or (get_or (first_chunks 2 n xs) k []) 1 0 ≡ get_or xs (2 * k + 1) 0
pair_end k zero xs l fit = absurd (omega arith)
pair_end k (suc n) [] l fit = absurd (omega arith)
pair_end k (suc n) (a ∷ []) l fit = absurd (omega arith)
pair_end zero (suc n) (a ∷ b ∷ xs) l fit = refl
pair_end (suc k) (suc n) (a ∷ b ∷ xs) l fit =
    let e : 2 * suc k + 1 ≡ suc (suc (2 * k + 1)) = omega arith in
    rw e (pair_end k n xs (omega arith) (omega arith))
