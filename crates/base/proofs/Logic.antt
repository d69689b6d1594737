-- Facts of tests that several proofs cite.
use mathlib.Core.Bool.{Bool, true, false, cond, ◌&&◌, ◌||◌, false≢true}
use mathlib.Core.List.{List, [], ◌∷◌}
use mathlib.Core.Logic.{◌⊎◌, inl, inr, ⊎_elim}
use mathlib.Core.Path.{◌≡◌, refl, sym, ◌∙◌}
use Prim.Native.Nat.{ℕ, zero, suc, ◌≤◌}
use native.Mathlib.Omega.{arith}
use borrow.Author.Tests.{eq-eqb, ne_eqb}
use lib.Dec.{eqb}
use lib.ListN.{get_or}
use Rattle.base.specs.Lists.{every, one_of}

-- a test goes one way or the other: for `⊎_elim (λ e. rw e ..) (λ e. rw e ..) (either test)`
pub either : (t : Bool) → (t ≡ true) ⊎ (t ≡ false)
either true = inl refl
either false = inr refl

pub and_parts : (a b : Bool) → (a && b) ≡ true → (a ≡ true) × (b ≡ true)
and_parts true b e = (refl, e)
and_parts false b e = absurd (false≢true e)

pub or_parts : (a b : Bool) → (a || b) ≡ true → (a ≡ true) ⊎ (b ≡ true)
or_parts true b e = inl refl
or_parts false b e = inr e

pub both : (a b : Bool) → a ≡ true → b ≡ true → (a && b) ≡ true
both a b p q = rw (p, q)

-- two tests that pass together are one
pub together : (a b : Bool) → (a ≡ true → b ≡ true) → (b ≡ true → a ≡ true) → a ≡ b
together true b p q = sym (p refl)
together false true p q = q refl
together false false p q = refl

pub bit_le : (b : Bool) → cond b 1 0 ≤ 1
bit_le true = omega arith
bit_le false = omega arith

-- test k of a list that passes
pub passed : (ts : List Bool) → every ts ≡ true → (k : ℕ) → get_or ts k true ≡ true
passed [] e k = refl
passed (t ∷ ts) e zero = (and_parts t (every ts) e).0
passed (t ∷ ts) e (suc k) = passed ts (and_parts t (every ts) e).1 k

-- what follows from each test of a list follows from one of them
abbrev pub Each : (P : Type 0) → List Bool → Type 0
Each P [] = Unit {0}
Each P (t ∷ ts) = (t ≡ true → P) × Each P ts

pub one_of_lem : (P : Type 0) (ts : List Bool) → Each P ts → one_of ts ≡ true → P
one_of_lem P [] h e = absurd (false≢true e)
one_of_lem P (t ∷ ts) h e = ⊎_elim h.0 (one_of_lem P ts h.1) (or_parts t (one_of ts) e)

-- the outcome of a code's test for the number that the definition names
pub tests_true : {m n k : ℕ} → m ≡ n → m ≡ k → eqb n k ≡ true
tests_true e h = eq-eqb _ _ (sym e ∙ h)

pub tests_false : {m n k : ℕ} → m ≡ n → (m ≡ k → ⊥) → eqb n k ≡ false
tests_false e h = ne_eqb _ _ (λ f. h (e ∙ f))
