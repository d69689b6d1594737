-- Tables f 0, f 1, ..: what one stored call changes in them.
use mathlib.Core.Path.{◌≡◌, refl, ap, ◌∙◌, fun_ext}
use mathlib.Core.Bool.{Bool, true, false, cond}
use mathlib.Core.List.{List, ◌∷◌}
use Prim.Native.Nat.{ℕ, zero, suc, ◌+◌, ◌≤◌}
use native.Mathlib.Nat.{add-zero, zero-add}
use native.Mathlib.Omega.{arith}
use lib.Dec.{eqb}
use lib.ListN.{set, replicate}
use borrow.Author.Tests.{eqb-true, eqb-false}
use Rattle.base.specs.Lists.{up_to}
use Rattle.book.specs.Answers.{Answer, is_stored}
use Rattle.book.specs.Filling.{stored_in}

pub up_to_zero : (a n : ℕ) → replicate {A = ℕ} n 0 ≡ up_to (λ i. 0) a n
unfolding up_to
up_to_zero a zero = refl
up_to_zero a (suc n) = ap {B = List ℕ} (λ l. 0 ∷ l) (up_to_zero (suc a) n)

pub up_to_same : (f g : ℕ → ℕ) (n : ℕ) → ((i : ℕ) → g i ≡ f i) → up_to g 0 n ≡ up_to f 0 n
up_to_same f g n same = ap (λ (k : ℕ → ℕ). up_to k 0 n) (fun_ext same)

-- functions that are equal from a on
up_to_from : (f g : ℕ → ℕ) (a n : ℕ) → ((i : ℕ) → a ≤ i → g i ≡ f i) → up_to g a n ≡ up_to f a n
unfolding up_to
up_to_from f g a zero same = refl
up_to_from f g a (suc n) same =
    rw (same a (omega arith)) (ap {B = List ℕ} (λ l. f a ∷ l) (up_to_from f g (suc a) n (λ i l. same i (omega arith))))

-- a function that differs at j alone makes a table that differs at j alone
up_to_set : (f g : ℕ → ℕ) (a n j : ℕ) → ((i : ℕ) → (a + j ≡ i → ⊥) → g i ≡ f i) → up_to g a n ≡ set (up_to f a n) j (g (a + j))
unfolding up_to
up_to_set f g a zero j same = refl
up_to_set f g a (suc n) zero same =
    rw (add-zero a) (ap {B = List ℕ} (λ l. g a ∷ l) (up_to_from f g (suc a) n (λ i l. same i (λ e. omega arith))))
up_to_set f g a (suc n) (suc j) same =
    let next : suc a + j ≡ a + suc j = omega arith in
    rw (same a (λ e. omega arith), ← next)
    (ap {B = List ℕ} (λ l. f a ∷ l) (up_to_set f g (suc a) n j (λ i ne. same i (λ e. ne (omega arith)))))

-- a table that differs at j alone, and there as the answer says, is the table before with the call filed in it
module _ (f g : ℕ → ℕ) (n j x : ℕ) (elsewhere : (i : ℕ) → (j ≡ i → ⊥) → g i ≡ f i) where
  unchanged : g j ≡ f j → up_to g 0 n ≡ up_to f 0 n
  unchanged e = up_to_same f g n (λ i. at i (eqb j i) refl)
    where
      at : (i : ℕ) (t : Bool) → eqb j i ≡ t → g i ≡ f i
      at i true d = rw (← eqb-true j i d) e
      at i false d = elsewhere i (eqb-false j i d)

  pub up_to_filed : (a : Answer) → g j ≡ cond (is_stored a) x (f j) → up_to g 0 n ≡ stored_in a (up_to f 0 n) j x
  up_to_filed a = go (is_stored a)
    where
      go : (t : Bool) → g j ≡ cond t x (f j) → up_to g 0 n ≡ cond t (set (up_to f 0 n) j x) (up_to f 0 n)
      go true e =
          let here = up_to_set f g 0 n j (λ i ne. elsewhere i (λ d. ne (zero-add j ∙ d))) in
          rw (zero-add j, e) at here
      go false e = unchanged e
