-- Which lines of a log are calls, and which call.
use Rattle.std.specs.Prelude.{Bool, cond, ◌&&◌, ◌||◌, List, [], ◌∷◌, ◌++◌, map, ℕ, ◌-◌, leb, ltb, eqb, length, get_or, take, replicate}
use Rattle.base.specs.Text.{ascii}
use Rattle.text_log.specs.declared.line.Opening.{Opening}
use Rattle.text_log.specs.declared.line.LogLine.{LogLine}
use Rattle.text_log.specs.declared.line.LogLine.TheVariants.{Passed, Table, Open, Fill, NoCall}
use Rattle.text_log.specs.declared.limits.Limits.{Limits}
use Rattle.text_log.specs.declared.line.Entry.{Entry}
use Rattle.book.specs.declared.calls.Call.TheVariants.{Delivery, Agreed, Holiday, Register}
use Rattle.text_log.specs.Numbers.{value_of, is_date_word, year_part, month_part, day_part}
use Rattle.text_log.specs.Words.{words, same, are_numbers}

-- the words that calls begin with
abbrev pub open_word : List ℕ
open_word = ascii "open"

abbrev pub delivery_word : List ℕ
delivery_word = ascii "delivery"

abbrev pub holiday_word : List ℕ
holiday_word = ascii "holiday"

abbrev pub register_word : List ℕ
register_word = ascii "register"

abbrev pub agreed_word : List ℕ
agreed_word = ascii "agreed"

-- the value of field i, where the first is 0
abbrev pub value : List (List ℕ) → ℕ → ℕ
value fields i = value_of (get_or fields i [])

-- date, days, interval, kind, tolerance
abbrev pub opening_of : List ℕ → List (List ℕ) → Opening
opening_of date fields = record {
  year = value_of (year_part date);
  month = value_of (month_part date);
  day = value_of (day_part date);
  days = value fields 0;
  interval = value fields 1;
  kind = value fields 2;
  tolerance = value fields 3;
}

unfoldable pub open_of : List (List ℕ) → LogLine
open_of [] = NoCall
open_of (date ∷ fields) = cond (is_date_word date && are_numbers 4 fields) (Open (opening_of date fields)) NoCall

-- slot, version, value, status
unfoldable pub delivery_of : List (List ℕ) → LogLine
delivery_of fields =
    cond (are_numbers 4 fields) (Fill (Delivery (value fields 0) (value fields 1) (value fields 2) (value fields 3))) NoCall

-- day
unfoldable pub holiday_of : List (List ℕ) → LogLine
holiday_of fields = cond (are_numbers 1 fields) (Fill (Holiday (value fields 0))) NoCall

-- boundary, version, reading, and a width where there is one; without it the width is 0 (02, W10)
unfoldable pub sharp_of : List (List ℕ) → LogLine
sharp_of fields = cond (are_numbers 3 fields) (Fill (Register (value fields 0) (value fields 1) (value fields 2) 0)) NoCall

unfoldable pub register_of : List (List ℕ) → LogLine
register_of fields =
    cond (are_numbers 4 fields) (Fill (Register (value fields 0) (value fields 1) (value fields 2) (value fields 3))) (sharp_of fields)

-- slot, version, value in Wh (02, W1)
unfoldable pub agreed_of : List (List ℕ) → LogLine
agreed_of fields = cond (are_numbers 3 fields) (Fill (Agreed (value fields 0) (value fields 1) (value fields 2))) NoCall

-- the keyword, then its fields; a line has at least one word
unfoldable pub call_of : List (List ℕ) → LogLine
call_of [] = NoCall
call_of (word ∷ fields) =
    cond (same word open_word) (open_of fields)
    (cond (same word delivery_word) (delivery_of fields)
    (cond (same word holiday_word) (holiday_of fields)
    (cond (same word register_word) (register_of fields)
    (cond (same word agreed_word) (agreed_of fields)
    NoCall))))

-- a line may end in CR LF
unfoldable pub without_cr : List ℕ → List ℕ
without_cr bytes = cond (eqb (get_or bytes (length bytes - 1) 0) 13) (take (length bytes - 1) bytes) bytes

-- an empty line, and one that begins with `#`
unfoldable pub is_passed : List ℕ → Bool
is_passed line = eqb (length line) 0 || eqb (get_or line 0 0) 35

-- and a table, 1 to 24 numbers (02, W5)
abbrev pub limits_word : List ℕ
limits_word = ascii "limits"

unfoldable pub are_limits : List (List ℕ) → Bool
are_limits fields = leb 1 (length fields) && leb (length fields) 24 && are_numbers (length fields) fields

-- a table in 24 places, zeros behind it
abbrev pub limits_of : List ℕ → Limits
limits_of table = record { values = table ++ replicate (24 - length table) 0; count = length table }

-- a line with no table
abbrev pub bare : LogLine → Entry
bare line = record { line = line; limits = limits_of [] }

unfoldable pub limits_entry : List (List ℕ) → Entry
limits_entry fields = cond (are_limits fields) (record { line = Table; limits = limits_of (map value_of fields) }) (bare NoCall)

unfoldable pub words_entry : List (List ℕ) → Entry
words_entry [] = bare NoCall
words_entry (word ∷ fields) = cond (same word limits_word) (limits_entry fields) (bare (call_of (word ∷ fields)))

-- the bytes of a line without its LF
unfoldable pub entry_of : List ℕ → Entry
entry_of bytes =
    cond (is_passed (without_cr bytes)) (bare Passed)
    (cond (ltb 255 (length (without_cr bytes))) (bare NoCall) (words_entry (words (without_cr bytes))))
