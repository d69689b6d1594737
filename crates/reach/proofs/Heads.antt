-- The heads of the books that show that no clause can be left out.
use Prim.Native.Nat.{ℕ}
use Rattle.rules.specs.declared.Head.{Head}

-- a first day and a number of days, with an interval of 30, a limit of 40,000 and a tolerance of 0
abbrev pub head_on : ℕ → ℕ → ℕ → ℕ → Head
head_on year month day days =
    record { year = year; month = month; day = day; days = days; interval = 30; limit = 40_000; tolerance = 0 }
