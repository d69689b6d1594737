-- The first broken rule, or none.
use mathlib.Core.Bool.{Bool, true, false, true≢false}
use mathlib.Core.List.{List, [], ◌∷◌}
use mathlib.Core.Path.{◌≡◌, refl, sym, ap}
use Prim.Native.Nat.{ℕ, zero, suc}
use native.Mathlib.Omega.{arith}
use Rattle.std.specs.Prelude.{Result, Ok, Err}
use Rattle.base.specs.declared.Refusal.{Refusal}
use Rattle.base.specs.Refusals.{Rule, unless, tested}
use Rattle.base.specs.Refusals.Rule.{rule}

-- whether rule k of a list is broken
abbrev pub broken : List Rule → ℕ → Bool
broken [] k = false
broken (rule r t ∷ rules) zero = t
broken (rule r t ∷ rules) (suc k) = broken rules k

abbrev pub Unbroken : List Rule → Type 0
Unbroken rules = (k : ℕ) → broken rules k ≡ false

unbroken_next : (r : Refusal) (rules : List Rule) → Unbroken rules → Unbroken (rule r false ∷ rules)
unbroken_next r rules u zero = refl
unbroken_next r rules u (suc k) = u k

-- the two answers of a `Result` differ, and so do two refusals of one
different : {X : Type 0} {x : X} {r : Refusal} → ◌≡◌ {A = Result X Refusal} (Ok x) (Err r) → ⊥
different e = let z : ◌≡◌ {A = ℕ} 0 1 = cc in omega arith

same_refusal : {X : Type 0} {q r : Refusal} → ◌≡◌ {A = Result X Refusal} (Err q) (Err r) → q ≡ r
same_refusal e = cc

module _ {X : Type 0} (refused : Refusal → X) where
  -- where none is broken, the answer is given
  pub unless_unbroken : (rules : List Rule) (a : X) → Unbroken rules → unless refused rules a ≡ a
  unless_unbroken [] a u = refl
  unless_unbroken (rule r true ∷ rules) a u = absurd (true≢false (u 0))
  unless_unbroken (rule r false ∷ rules) a u = unless_unbroken rules a (λ k. u (suc k))

  -- the refusal of a test of the rules alone
  pub unless_refused : (rules : List Rule) (a : X) (r : Refusal) → tested rules ≡ Err r → unless refused rules a ≡ refused r
  unless_refused [] a r e = absurd (different e)
  unless_refused (rule q true ∷ rules) a r e = ap refused (same_refusal e)
  unless_refused (rule q false ∷ rules) a r e = unless_refused rules a r e

  -- answers that are equal where none is broken are equal behind the rules
  pub unless_same : (rules : List Rule) (a b : X) → (Unbroken rules → a ≡ b) → unless refused rules a ≡ unless refused rules b
  unless_same [] a b same = same (λ k. refl)
  unless_same (rule r true ∷ rules) a b same = refl
  unless_same (rule r false ∷ rules) a b same = unless_same rules a b (λ u. same (unbroken_next r rules u))

  -- what no refusal has, the answer has, and none is broken
  pub unless_answered : (P : X → Type 0) → ((r : Refusal) → P (refused r) → ⊥) → (rules : List Rule) (a : X) → P (unless refused rules a)
      → P a × Unbroken rules
  unless_answered P none [] a p = (p, λ k. refl)
  unless_answered P none (rule r true ∷ rules) a p = absurd (none r p)
  unless_answered P none (rule r false ∷ rules) a p =
      let (kept, unbroken) = unless_answered P none rules a p in
      (kept, unbroken_next r rules unbroken)

-- a test of the rules alone that refuses nothing
pub none_broken : (rules : List Rule) → tested rules ≡ Ok tt → Unbroken rules
none_broken [] e = λ k. refl
none_broken (rule r true ∷ rules) e = absurd (different (sym e))
none_broken (rule r false ∷ rules) e = unbroken_next r rules (none_broken rules e)
