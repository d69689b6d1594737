-- Two functions agree below a bound, by one test that is computed.
use mathlib.Core.Bool.{Bool, true, false, ◌&&◌}
use mathlib.Core.Logic.{⊎_elim}
use mathlib.Core.Path.{◌≡◌}
use Prim.Native.Nat.{ℕ, zero, suc, ◌<◌}
use native.Mathlib.Nat.{eq-or-lt_of_le, le_of_suc-le-suc, not-suc-le-zero}
use borrow.Author.Tests.{eqb-true}
use lib.Dec.{eqb}
use Rattle.base.proofs.Logic.{and_parts}

abbrev pub agree : (ℕ → ℕ) → (ℕ → ℕ) → ℕ → Bool
agree f g zero = true
agree f g (suc n) = eqb (f n) (g n) && agree f g n

pub agreed : (f g : ℕ → ℕ) (n : ℕ) → agree f g n ≡ true → (k : ℕ) → k < n → f k ≡ g k
agreed f g zero e k h = absurd (not-suc-le-zero h)
agreed f g (suc n) e k h =
    let p = and_parts (eqb (f n) (g n)) (agree f g n) e in
    ⊎_elim (λ q. rw q (eqb-true (f n) (g n) p.0)) (λ q. agreed f g n p.1 k q) (eq-or-lt_of_le (le_of_suc-le-suc h))

-- the same of ordinary years and of leap years
abbrev pub both_agree : (Bool → ℕ → ℕ) → (Bool → ℕ → ℕ) → ℕ → Bool
both_agree f g n = agree (f false) (g false) n && agree (f true) (g true) n

pub both_agreed : (f g : Bool → ℕ → ℕ) (n : ℕ) → both_agree f g n ≡ true → (b : Bool) (k : ℕ) → k < n → f b k ≡ g b k
both_agreed f g n e false k h = agreed (f false) (g false) n (and_parts (agree (f false) (g false) n) _ e).0 k h
both_agreed f g n e true k h = agreed (f true) (g true) n (and_parts (agree (f false) (g false) n) _ e).1 k h
