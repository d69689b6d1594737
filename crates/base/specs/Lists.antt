-- Tests, and sums, tests and lists over a stretch of places.
use Rattle.std.specs.Prelude.{Bool, true, false, cond, not, ◌&&◌, ◌||◌, List, [], ◌∷◌, ℕ, zero, suc, ◌+◌}

-- ---- Tests

-- every test of a list passes
abbrev pub every : List Bool → Bool
every [] = true
every (t ∷ ts) = t && every ts

-- one of them passes
abbrev pub one_of : List Bool → Bool
one_of [] = false
one_of (t ∷ ts) = t || one_of ts

-- one test passes exactly when the other does
abbrev pub same : Bool → Bool → Bool
same true b = b
same false b = not b

-- when one test passes, so does the other
abbrev pub implies : Bool → Bool → Bool
implies a b = not a || b

-- ---- Lists

unfoldable pub sum_of : List ℕ → ℕ
sum_of [] = 0
sum_of (x ∷ xs) = x + sum_of xs

-- ---- The k places from a

-- f a + f (a + 1) + .. , k terms
unfoldable pub sum : (ℕ → ℕ) → ℕ → ℕ → ℕ
sum f a zero = 0
sum f a (suc k) = sum f a k + f (a + k)

-- f a, f (a + 1), .. , k of them
unfoldable pub up_to : {X : Type 0} → (ℕ → X) → ℕ → ℕ → List X
up_to f a zero = []
up_to f a (suc k) = f a ∷ up_to f (suc a) k

-- they all pass
unfoldable pub all : (ℕ → Bool) → ℕ → ℕ → Bool
all p a zero = true
all p a (suc k) = p a && all p (suc a) k

-- one of them passes
unfoldable pub any : (ℕ → Bool) → ℕ → ℕ → Bool
any p a zero = false
any p a (suc k) = any p a k || p (a + k)

-- how many of them pass
abbrev pub count : (ℕ → Bool) → ℕ → ℕ → ℕ
count p a k = sum (λ i. cond (p i) 1 0) a k
