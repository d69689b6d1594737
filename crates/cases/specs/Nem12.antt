-- Figures of our own for W8, as one table of tests, which `nem12_cases` computes.
use Rattle.std.specs.Prelude.{ℕ, Bool, true, false, not, ◌&&◌, List, [], ◌∷◌, ◌++◌, ◌==◌, slice_index_or}
use Rattle.base.specs.Text.{ascii}
use Rattle.rules.specs.declared.Quality.{Quality}
use Rattle.rules.specs.declared.Quality.TheVariants.{A, S, F, N}
use Rattle.file.specs.Layout.{letter}
use Rattle.market.specs.declared.Codes.{Codes}
use Rattle.market.specs.declared.marks.Mark.{Mark}
use Rattle.market.specs.Fields.{kwh, mark_of, alike, quality}
use Rattle.market.specs.Records.{record300, record400, day_records}

-- equal texts
abbrev pub same : List ℕ → List ℕ → Bool
same [] [] = true
same [] (c ∷ t) = false
same (b ∷ s) [] = false
same (b ∷ s) (c ∷ t) = b == c && same s t

abbrev pub codes : Codes
codes = record { two = 14; three = 14; five = 7; eighteen = 65; nineteen = 66 }

-- what is written of a slot with this quality and method
abbrev pub mark_for : Quality → ℕ → Mark
mark_for q method = mark_of codes (record { value = 0; letter = letter q; method = method })

abbrev pub reason : List ℕ
reason = ascii "79"

abbrev pub created : List ℕ
created = ascii "20240601000000"

-- a day of four slots: (A,0), (A,1), (S,2) and (S,3), whose methods have one code
abbrev pub marks : ℕ → Mark
marks i = slice_index_or (mark_for A 0 ∷ mark_for A 1 ∷ mark_for S 2 ∷ mark_for S 3 ∷ []) i (mark_for N 0)

unfoldable pub cases : List Bool
cases =
    same (kwh 620) (ascii "0.620")
    ∷ same (kwh 4_294_967_295) (ascii "4294967.295")
    ∷ same (kwh 100) (ascii "0.100")
    -- (A,0) and (A,1) are alike, and so are two S slots whose methods have one code; F is written F07
    ∷ alike (mark_for A 0) (mark_for A 1)
    ∷ alike (mark_for S 2) (mark_for S 3)
    ∷ not (alike (mark_for S 2) (mark_for S 18))
    ∷ same (quality (mark_for F 5)) (ascii "F07")
    ∷ same (record400 reason 1 20 (mark_for A 0)) (ascii "400,1,20,A,,\r\n")
    ∷ same (record300 reason created 59 (λ i. 620) 0 1 (mark_for A 0)) (ascii "300,20000229,0.620,A,,,20240601000000,\r\n")
    ∷ same (day_records reason created 59 (λ i. 1) marks 0 4)
    (ascii "300,20000229,0.001,0.001,0.001,0.001,V,,,20240601000000,\r\n" ++ ascii "400,1,2,A,,\r\n" ++ ascii "400,3,4,S14,79,\r\n")
    ∷ []
