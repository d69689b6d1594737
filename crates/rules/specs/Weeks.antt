-- On which days before its own a slot's references lie (01, Filling, rule 3, and 02, W3).
use Rattle.std.specs.Prelude.{cond, List, ℕ, ◌+◌, ◌-◌, ◌/◌, eqb, get_or}
use Rattle.calendar.specs.Calendar.{to_sunday}
use Rattle.rules.specs.declared.Head.{Head}
use Rattle.rules.specs.Opening.{first_day}

-- from day d to the nearest: 7 days; from a holiday to the nearest Sunday strictly before it
unfoldable pub first_back : Head → List ℕ → ℕ → ℕ
first_back h holidays d = cond (eqb (get_or holidays d 0) 0) 7 (to_sunday (first_day h + d))

-- to the farthest: up to 364 days; from a holiday no more than 370
unfoldable pub farthest_back : List ℕ → ℕ → ℕ
farthest_back holidays d = cond (eqb (get_or holidays d 0) 0) 364 370

-- how many of first, first + 7, first + 14, .. are at most farthest
unfoldable pub weeks_within : ℕ → ℕ → ℕ
weeks_within first farthest = (farthest + 7 - first) / 7
