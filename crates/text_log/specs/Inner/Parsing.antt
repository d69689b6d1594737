-- The words that are left of a line.
use Rattle.std.specs.Prelude.{cond, List, [], ◌∷◌, map, ℕ, Option, Some, None}
use Rattle.text_log.specs.declared.limits.Limits.{Limits}
use Rattle.text_log.specs.Numbers.{value_of}
use Rattle.text_log.specs.Words.{split, are_numbers}
use Rattle.text_log.specs.Line.{are_limits, limits_of}

-- the pieces behind one whose separator begins these bytes; without a byte it was the last
unfoldable pub pieces_left : ℕ → List ℕ → List (List ℕ)
pieces_left separator [] = []
pieces_left separator (b ∷ rest) = split separator [] rest

abbrev pub words_left : List ℕ → List (List ℕ)
words_left rest = pieces_left 32 rest

-- the values of n numbers
unfoldable pub numbers_in : ℕ → List (List ℕ) → Option (List ℕ)
numbers_in n fields = cond (are_numbers n fields) (Some (map value_of fields)) None

-- and of the 1 to 24 of a table
unfoldable pub limits_in : List (List ℕ) → Option Limits
limits_in fields = cond (are_limits fields) (Some (limits_of (map value_of fields))) None
