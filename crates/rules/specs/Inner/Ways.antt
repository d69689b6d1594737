-- How many weeks of a search lie in the book, and which of them it passes over.
use Rattle.std.specs.Prelude.{Bool, true, ◌&&◌, List, ◌≡◌, ℕ, zero, suc, ◌+◌, ◌-◌, ◌*◌, ◌≤◌, ◌<◌, get_or}
use Rattle.rules.specs.Opening.{Slots}
use Rattle.rules.specs.Tests.{is_gap}
use Rattle.rules.specs.Weeks.{weeks_within}

-- a slot's value
abbrev pub value_of : Slots → ℕ → ℕ
value_of s i = get_or s.values i 0

-- from day `day`, `first` days back and then week by week: all weeks up to the farthest but those before the book
pub record InBook (first farthest day weeks : ℕ) : Type 0 where
  pub short : first ≤ 7
  pub inside : first + 7 * weeks ≤ day + 7
  pub within : weeks ≤ weeks_within first farthest
  pub all : weeks < weeks_within first farthest → day < first + 7 * weeks

-- the slots one, two, three and four weeks before slot `at` are gaps
unfoldable pub four_gaps : List ℕ → ℕ → ℕ → Bool
four_gaps versions at week =
    (is_gap versions (at - week) && is_gap versions (at - 2 * week)) && (is_gap versions (at - 3 * week) && is_gap versions (at - 4 * week))

-- k gaps a week apart, from slot `at` up to the slot a week before slot `from`
unfoldable pub GapsUpTo : List ℕ → ℕ → ℕ → ℕ → ℕ → Type 0
GapsUpTo versions week from at zero = at ≡ from
GapsUpTo versions week from at (suc k) = (is_gap versions at ≡ true) × GapsUpTo versions week from (at + week) k
