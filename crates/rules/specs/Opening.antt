-- The head of a book, its slots and its cells (01, Opening).
use Rattle.std.specs.Prelude.{Bool, ◌||◌, List, [], ◌∷◌, ℕ, ◌+◌, ◌*◌, ◌/◌, leb, eqb}
use Rattle.base.specs.Lists.{every}
use Rattle.calendar.specs.Calendar.{day_number, is_date, day_count}
use Rattle.rules.specs.declared.Head.{Head}
use Rattle.rules.specs.Numbers.{most_days, day_minutes, most_limit, most_tolerance}

-- the day number of the first day
unfoldable pub first_day : Head → ℕ
first_day h = day_number h.year h.month h.day

unfoldable pub interval_ok : ℕ → Bool
interval_ok interval = eqb interval 5 || (eqb interval 15 || eqb interval 30)

-- the last day is not after 2099-12-31
abbrev pub day_tests : Head → List Bool
day_tests h =
    is_date h.year h.month h.day
    ∷ leb 1 h.days
    ∷ leb h.days most_days
    ∷ leb (first_day h + h.days) day_count
    ∷ []

-- the demand limit is 1 to 1,000,000 W (02, W5)
abbrev pub head_tests : Head → List Bool
head_tests h =
    interval_ok h.interval
    ∷ every (day_tests h)
    ∷ leb 1 h.limit
    ∷ leb h.limit most_limit
    ∷ leb h.tolerance most_tolerance
    ∷ []

unfoldable pub head_ok : Head → Bool
head_ok h = every (head_tests h)

-- n: slots a day
unfoldable pub slots_per_day : Head → ℕ
slots_per_day h = day_minutes / h.interval

-- N = n × D: slots of the book
unfoldable pub slot_count : Head → ℕ
slot_count h = slots_per_day h * h.days

-- the three lent lists of slots
pub record Slots : Type 0 where
  pub values : List ℕ
  pub versions : List ℕ
  pub statuses : List ℕ

-- the two lent lists of agreed values (02, W1)
pub record Agreed : Type 0 where
  pub values : List ℕ
  pub versions : List ℕ

-- the nine lent lists
pub record Cells : Type 0 where
  pub slots : Slots
  pub holidays : List ℕ
  pub readings : List ℕ
  pub read_versions : List ℕ
  pub agreed : Agreed
  -- of the readings (02, W10)
  pub widths : List ℕ
