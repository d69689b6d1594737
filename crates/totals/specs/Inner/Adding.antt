-- The totals day by day.
use Rattle.std.specs.Prelude.{Bool, cond, ◌&&◌, List, ◌≡◌, ℕ, ◌+◌, ◌^◌, ◌<◌, leb, ltb, length, get_or}
use Rattle.base.specs.Lists.{up_to}
use Rattle.totals.specs.Stays.{stay_total, pair_count, first_of, end_of}

-- the day lies in the stay
abbrev pub holds : ℕ → ℕ → ℕ → Bool
holds first end day = leb first day && ltb day end

-- what each total is with a day's energy added where its pair holds the day
unfoldable pub with_day : List ℕ → List ℕ → ℕ → ℕ → List ℕ
with_day pairs totals day energy =
    up_to (λ k. get_or totals k 0 + cond (holds (first_of pairs k) (end_of pairs k) day) energy 0) 0 (length totals)

-- a total for each pair, and room in each for the energy
pub record Room (pairs totals : List ℕ) (energy : ℕ) : Type 0 where
  pub each : length totals ≡ pair_count pairs
  pub fits : (k : ℕ) → k < length totals → get_or totals k 0 + energy < 2 ^ 64

abbrev pub least : ℕ → ℕ → ℕ
least a b = cond (leb a b) a b

-- each pair's total over the days before day d
unfoldable pub totals_before : List ℕ → ℕ → List ℕ → ℕ → List ℕ
totals_before bs n pairs d = up_to (λ k. stay_total bs n (first_of pairs k) (least (end_of pairs k) d)) 0 (pair_count pairs)
