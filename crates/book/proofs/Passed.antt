-- A walk over cells that looks for one at fault: no cell passed is.
use mathlib.Core.Bool.{Bool, true, false}
use mathlib.Core.Path.{◌≡◌, sym}
use Prim.Native.Nat.{ℕ, ◌+◌, ◌≤◌, ◌<◌, zero-le}
use native.Mathlib.Omega.{arith}
use Rattle.base.specs.Lists.{any}
use Rattle.base.proofs.Sums.{any_empty, none_on, one_found}

pub record Passed (f : ℕ → Bool) (n i : ℕ) : Type 0 where
  pub inside : i ≤ n
  pub none : any f 0 i ≡ false

pub none_yet : (f : ℕ → Bool) (n : ℕ) → Passed f n 0
none_yet f n = record { inside = zero-le; none = any_empty f 0 }

pub one_more : (f : ℕ → Bool) (n i : ℕ) → Passed f n i → i < n → f i ≡ false → Passed f n (i + 1)
one_more f n i held l e = record { inside = omega arith; none = none_on f i held.none e }

pub at_fault : (f : ℕ → Bool) (n i : ℕ) → i < n → f i ≡ true → true ≡ any f 0 n
at_fault f n i l e = sym (one_found f i n l e)

pub all_passed : (f : ℕ → Bool) (n i : ℕ) → Passed f n i → n ≤ i → false ≡ any f 0 n
all_passed f n i held l =
    let e : i ≡ n = omega (arith, held.inside) in
    sym (rw e at held.none)
