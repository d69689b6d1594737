-- On which days of the book a slot's references lie (01, Filling, rule 3, and 02, W3).
use Rattle.std.specs.Prelude.{cond, List, [], ◌∷◌, ℕ, zero, suc, ◌-◌, ◌*◌, ◌/◌, ltb, get_or, take}
use Rattle.rules.specs.declared.Head.{Head}
use Rattle.rules.specs.Opening.{Slots, slots_per_day}
use Rattle.rules.specs.Filling.{is_reference}
use Rattle.rules.specs.Weeks.{first_back, farthest_back, weeks_within}

-- what f gives of the references `days` days before slot j and each week before that, k weeks in all, in the book, nearest first
unfoldable pub each_week : (ℕ → ℕ) → Head → Slots → List ℕ → ℕ → ℕ → ℕ → List ℕ
each_week f h s holidays days j zero = []
each_week f h s holidays days j (suc k) =
    let i = j - days * slots_per_day h in
    let rest = each_week f h s holidays 7 i k in
    cond (ltb j (days * slots_per_day h)) [] (cond (is_reference h s holidays i) (f i ∷ rest) rest)

-- of the nearest four, from the days that the slot's own day decides; of their values this is `references`
unfoldable pub each_reference : (ℕ → ℕ) → Head → Slots → List ℕ → ℕ → List ℕ
each_reference f h s holidays i =
    let d = i / slots_per_day h in
    let first = first_back h holidays d in
    take 4 (each_week f h s holidays first i (weeks_within first (farthest_back holidays d)))

-- their days
abbrev pub reference_days : Head → Slots → List ℕ → ℕ → List ℕ
reference_days h s holidays i = each_reference (λ j. j / slots_per_day h) h s holidays i

-- a list of at most four numbers in four places, 0 behind them
unfoldable pub in_four : List ℕ → List ℕ
in_four xs = get_or xs 0 0 ∷ get_or xs 1 0 ∷ get_or xs 2 0 ∷ get_or xs 3 0 ∷ []
