-- The bounds of a book (01, Opening; 02, W2, W5 and W10).
use Rattle.std.specs.Prelude.{ℕ}

-- "D days, 1 to 400"
abbrev pub most_days : ℕ
most_days = 400

-- of a day
abbrev pub day_minutes : ℕ
day_minutes = 1440

-- the slots of the longest book, 400 days of 5 minutes
abbrev pub most_slots : ℕ
most_slots = 115_200

-- "a tolerance t of 0 to 1,000,000 Wh"
abbrev pub most_tolerance : ℕ
most_tolerance = 1_000_000

-- of the demand limits in W none is over 1,000,000 (02, W5)
abbrev pub most_limit : ℕ
most_limit = 1_000_000

-- the minutes of a run that a line fills, "g × L at most 120" (02, W2)
abbrev pub most_minutes : ℕ
most_minutes = 120

-- of the widths of readings none is over 9,999 (02, W10)
abbrev pub most_width : ℕ
most_width = 9999
