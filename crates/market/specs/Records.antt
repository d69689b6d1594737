-- The records of an export (02, W8).
use Rattle.std.specs.Prelude.{cond, List, [], ◌∷◌, ◌++◌, ℕ, ◌+◌, ◌*◌, take}
use Rattle.base.specs.Text.{ascii}
use Rattle.line.specs.Line.{decimal}
use Rattle.market.specs.declared.marks.Mark.{Mark}
use Rattle.market.specs.Fields.{field, fields, joined, kwh, date_field, marked, one_mark, ends_run, start_of, day_mark}

-- 100, NEM12, the creation time's first 12 digits, FromParticipant, ToParticipant
unfoldable pub record100 : List ℕ → List ℕ → List ℕ → List ℕ
record100 created from to = ascii "100" ++ fields (ascii "NEM12" ∷ take 12 created ∷ from ∷ to ∷ [])

-- 200, NMI, NMIConfiguration, RegisterID, NMISuffix, MDMDataStreamIdentifier, MeterSerialNumber, kWh, L, NextScheduledReadDate
unfoldable pub record200 : List ℕ → List ℕ → List ℕ → List ℕ → List ℕ → List ℕ → ℕ → List ℕ → List ℕ
record200 identifier configuration register suffix stream serial interval next_read =
    ascii "200"
    ++ fields (identifier ∷ configuration ∷ register ∷ suffix ∷ stream ∷ serial ∷ ascii "kWh" ∷ decimal interval ∷ next_read ∷ [])

-- 300, the date, the values of the n slots from slot a, quality and reason, the creation time whole, an empty field
unfoldable pub record300 : List ℕ → List ℕ → ℕ → (ℕ → ℕ) → ℕ → ℕ → Mark → List ℕ
record300 reason created day value a n m =
    ascii "300"
    ++ (field (date_field day) ++ (joined (λ i. field (kwh (value i))) a n ++ (marked m reason ++ fields (created ∷ [] ∷ []))))

-- 400, the run's first and last interval, counted from 1, quality and reason
unfoldable pub record400 : List ℕ → ℕ → ℕ → Mark → List ℕ
record400 reason start end m = ascii "400" ++ (field (decimal start) ++ (field (decimal end) ++ (marked m reason ++ fields [])))

abbrev pub record900 : List ℕ
record900 = ascii "900\r\n"

-- a 400 for each longest run alike in both
unfoldable pub runs : List ℕ → (ℕ → Mark) → ℕ → ℕ → List ℕ
runs reason mark a n =
    joined (λ j. cond (ends_run mark a n j) (record400 reason (start_of mark a n j + 1) (j + 1) (mark (a + j))) []) 0 n

-- one 300 a day, behind it the runs where the day's written quality or method varies
unfoldable pub day_records : List ℕ → List ℕ → ℕ → (ℕ → ℕ) → (ℕ → Mark) → ℕ → ℕ → List ℕ
day_records reason created day value mark a n =
    record300 reason created day value a n (day_mark (one_mark mark a n) (mark a))
    ++ cond (one_mark mark a n) [] (runs reason mark a n)

-- the days from the first on, of n slots each
unfoldable pub days_of : List ℕ → List ℕ → ℕ → (ℕ → ℕ) → (ℕ → Mark) → ℕ → ℕ → List ℕ
days_of reason created first value mark n days =
    joined (λ d. day_records reason created (first + d) value mark (d * n) n) 0 days
