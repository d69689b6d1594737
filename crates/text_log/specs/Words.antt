-- Words of a line and lines of a log: the pieces between separators.
use Rattle.std.specs.Prelude.{Bool, true, false, cond, ◌&&◌, List, [], ◌∷◌, ◌++◌, ℕ, zero, suc, eqb}
use Rattle.text_log.specs.Numbers.{is_number}

-- the pieces, of which the first begins with the bytes `begun`
unfoldable pub split : ℕ → List ℕ → List ℕ → List (List ℕ)
split separator begun [] = begun ∷ []
split separator begun (b ∷ bs) =
    cond (eqb b separator) (begun ∷ split separator [] bs) (split separator (begun ++ (b ∷ [])) bs)

-- fields are separated by one space
abbrev pub words : List ℕ → List (List ℕ)
words line = split 32 [] line

-- the same bytes
unfoldable pub same : List ℕ → List ℕ → Bool
same [] [] = true
same [] (c ∷ cs) = false
same (b ∷ bs) [] = false
same (b ∷ bs) (c ∷ cs) = eqb b c && same bs cs

-- n words, each of them a number
unfoldable pub are_numbers : ℕ → List (List ℕ) → Bool
are_numbers zero [] = true
are_numbers zero (word ∷ rest) = false
are_numbers (suc n) [] = false
are_numbers (suc n) (word ∷ rest) = is_number word && are_numbers n rest
