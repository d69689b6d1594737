-- The harbour's table of demand limits (02, W5).
use Rattle.std.specs.Prelude.{Bool, cond, ◌&&◌, List, [], ◌∷◌, ℕ, zero, suc, ◌-◌, leb, ltb, length, get_or, Result, Ok, Err}
use Rattle.base.specs.declared.Refusal.{Refusal}
use Rattle.base.specs.declared.Refusal.TheVariants.{OutsideBounds, WrongLimits}
use Rattle.base.specs.Lists.{every, all}
use Rattle.rules.specs.Numbers.{most_limit}

-- the limit before place i, counted from 0; the first is at least 1, so above 0
unfoldable pub limit_before : List ℕ → ℕ → ℕ
limit_before table zero = 0
limit_before table (suc i) = get_or table i 0

-- above the one before, and not over 1,000,000
unfoldable pub rises_at : List ℕ → ℕ → Bool
rises_at table i = ltb (limit_before table i) (get_or table i 0) && leb (get_or table i 0) most_limit

-- 1 to 24 demand limits in W, the first at least 1, each above the one before, none over 1,000,000
abbrev pub table_tests : List ℕ → List Bool
table_tests table =
    leb 1 (length table) ∷ leb (length table) 24 ∷ all (rises_at table) 0 (length table) ∷ []

unfoldable pub table_ok : List ℕ → Bool
table_ok table = every (table_tests table)

-- a kind is a place in the table, counted from 1
abbrev pub place_tests : List ℕ → ℕ → List Bool
place_tests table kind = leb 1 kind ∷ leb kind (length table) ∷ []

-- 13 for a table that breaks this, before 1 for a kind that is no place; else the limit there
unfoldable pub load_answer : List ℕ → ℕ → Result ℕ Refusal
load_answer table kind =
    cond (table_ok table) (cond (every (place_tests table kind)) (Ok (get_or table (kind - 1) 0)) (Err OutsideBounds)) (Err WrongLimits)
