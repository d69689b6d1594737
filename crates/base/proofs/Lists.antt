-- Lists of what a function gives: f a, f (a + 1), ..
use mathlib.Core.List.{List, [], ◌∷◌, ◌++◌}
use mathlib.Core.Path.{◌≡◌, refl, sym, ap, ap₂, ◌∙◌}
use Prim.Native.Nat.{ℕ, zero, suc, ◌+◌, ◌<◌}
use native.Mathlib.Nat.{add-suc, suc-add, add-zero, zero-add, not-suc-le-zero, le_of_suc-le-suc}
use native.Mathlib.Omega.{arith}
use lib.ListN.{length, get_or}
use Rattle.base.specs.Lists.{up_to}

pub length_up_to : {X : Type 0} (f : ℕ → X) (a k : ℕ) → length (up_to f a k) ≡ k
unfolding up_to
length_up_to f a zero = refl
length_up_to f a (suc k) = ap suc (length_up_to f (suc a) k)

-- a list is what a function gives that gives its elements
pub up_to_list : {X : Type 0} (xs : List X) (d : X) (f : ℕ → X) (a : ℕ) → ((i : ℕ) → i < length xs → f (a + i) ≡ get_or xs i d)
    → up_to f a (length xs) ≡ xs
unfolding up_to
up_to_list [] d f a h = refl
up_to_list {X} (x ∷ xs) d f a h =
    ap₂ (λ (y : X) (ys : List X). y ∷ ys) (rw add-zero at (h 0 (omega arith)))
    (up_to_list xs d f (suc a) (λ i l. ap f (rw (suc-add, add-suc)) ∙ h (suc i) (omega arith)))

pub up_to_cong : {X : Type 0} (f g : ℕ → X) (a k : ℕ) → ((i : ℕ) → i < a + k → f i ≡ g i) → up_to f a k ≡ up_to g a k
unfolding up_to
up_to_cong f g a zero h = refl
up_to_cong {X} f g a (suc k) h =
    ap₂ (λ (y : X) (ys : List X). y ∷ ys) (h a (omega arith)) (up_to_cong f g (suc a) k (λ i l. h i (omega arith)))

-- one element more, at the end
pub up_to_snoc : {X : Type 0} (f : ℕ → X) (a k : ℕ) → up_to f a (suc k) ≡ up_to f a k ++ (f (a + k) ∷ [])
unfolding up_to
up_to_snoc {X} f a zero = ap (λ (x : X). x ∷ []) (ap f (sym (add-zero a)))
up_to_snoc {X} f a (suc k) =
    let e : suc a + k ≡ a + suc k = omega arith in
    ap (λ (l : List X). f a ∷ l) (up_to_snoc f (suc a) k ∙ ap (λ (m : ℕ). up_to f (suc a) k ++ (f m ∷ [])) e)

pub get_d_up_to : {X : Type 0} (f : ℕ → X) (d : X) (a k i : ℕ) → i < k → get_or (up_to f a k) i d ≡ f (a + i)
unfolding up_to
get_d_up_to f d a zero i l = absurd (not-suc-le-zero l)
get_d_up_to f d a (suc k) zero l = ap f (sym (add-zero a))
get_d_up_to f d a (suc k) (suc i) l = get_d_up_to f d (suc a) k i (le_of_suc-le-suc l) ∙ ap f (rw (suc-add, add-suc))

-- the same from place 0
pub up_to_at : {X : Type 0} (f : ℕ → X) (d : X) (k i : ℕ) → i < k → get_or (up_to f 0 k) i d ≡ f i
up_to_at f d k i l = get_d_up_to f d 0 k i l ∙ ap f (zero-add i)

pub up_to_all : {X : Type 0} (f : ℕ → X) (d : X) (xs : List X) → ((i : ℕ) → i < length xs → f i ≡ get_or xs i d) → up_to f 0 (length xs) ≡
    xs
up_to_all f d xs h = up_to_list xs d f 0 (λ i l. ap f (zero-add i) ∙ h i l)
