-- A slot table as six strips of differences, and the inverse (02, W13).
use Rattle.std.specs.Prelude.{Result, Ok, Err}
use Rattle.std.specs.Prelude.{Bool, cond, not, List, [], ◌∷◌, ℕ, suc, ◌+◌, ◌-◌, ◌*◌, ◌/◌, ◌%◌, ◌^◌, ltb, eqb, length, get_or}
use Rattle.rules.specs.Numbers.{day_minutes, most_days}
use Rattle.base.specs.declared.Refusal.{Refusal}
use Rattle.base.specs.declared.Refusal.TheVariants.{OutsideBounds, WrongTable}
use Rattle.base.specs.Refusals.{Rule, tested}
use Rattle.base.specs.Refusals.Rule.{rule}
use Rattle.base.specs.Lists.{every, any, sum, up_to}
use Rattle.rules.specs.Opening.{interval_ok}

-- n: slots a day
abbrev pub per_day : ℕ → ℕ
per_day interval = day_minutes / interval

-- N: a slot's record is six bytes, in the table and in the strips
abbrev pub slots_of : List ℕ → ℕ
slots_of bytes = length bytes / 6

-- byte k of a number, low byte first
unfoldable pub byte_of : ℕ → ℕ → ℕ
byte_of v k = v / 256 ^ k % 256

-- the number of four bytes, low byte first
unfoldable pub number : (ℕ → ℕ) → ℕ
number b = b 0 + 256 * b 1 + 65_536 * b 2 + 16_777_216 * b 3

-- byte k of a record: four of its value, then the quality letter and the method of an old record
unfoldable pub record_byte : ℕ → (ℕ → ℕ) → ℕ → ℕ
record_byte value old k = cond (ltb k 4) (byte_of value k) (old k)

-- byte k of slot i's record in a table
abbrev pub in_table : List ℕ → ℕ → ℕ → ℕ
in_table table i k = get_or table (6 * i + k) 0

-- "six strips, all first bytes, all second bytes and so on": the same byte in the strips
abbrev pub in_strips : List ℕ → ℕ → ℕ → ℕ
in_strips strips i k = get_or strips (i + k * slots_of strips) 0

-- the value of slot i in a table
abbrev pub value_at : List ℕ → ℕ → ℕ
value_at table i = number (in_table table i)

-- "the same position a day earlier (the first day from 0)"
unfoldable pub day_earlier : ℕ → (ℕ → ℕ) → ℕ → ℕ
day_earlier n value i = cond (ltb i n) 0 (value (i - n))

-- "each slot value becomes its difference, modulo 4,294,967,296"
unfoldable pub difference_at : ℕ → List ℕ → ℕ → ℕ
difference_at n table i = (value_at table i + 4_294_967_296 - day_earlier n (value_at table) i) % 4_294_967_296

-- byte k of what is stored of slot i
abbrev pub stored_at : ℕ → List ℕ → ℕ → ℕ → ℕ
stored_at n table i k = record_byte (difference_at n table i) (in_table table i) k

-- place p of the strips has byte p / N of slot p mod N
unfoldable pub strips_of : ℕ → List ℕ → List ℕ
strips_of n table = up_to (λ p. stored_at n table (p % slots_of table) (p / slots_of table)) 0 (length table)

-- the difference that the strips hold of slot i
abbrev pub difference_in : List ℕ → ℕ → ℕ
difference_in strips i = number (in_strips strips i)

-- slot i's value: the sum, modulo 4,294,967,296, of the differences at its position on the first day and each later one up to its own
unfoldable pub restored_value : ℕ → List ℕ → ℕ → ℕ
restored_value n strips i = sum (λ day. difference_in strips (day * n + i % n)) 0 (suc (i / n)) % 4_294_967_296

-- byte k of slot i's record
abbrev pub restored_at : ℕ → List ℕ → ℕ → ℕ → ℕ
restored_at n strips i k = record_byte (restored_value n strips i) (in_strips strips i) k

-- place p of the table has byte p mod 6 of slot p / 6
unfoldable pub table_of : ℕ → List ℕ → List ℕ
table_of n strips = up_to (λ p. restored_at n strips (p / 6) (p % 6)) 0 (length strips)

-- "6 × n times a number of days from 1 to 400"
unfoldable pub whole_days : ℕ → ℕ → Bool
whole_days n table = any (λ days. eqb table (6 * n * days)) 1 most_days

-- that, and an output as long
unfoldable pub lengths_ok : ℕ → ℕ → ℕ → Bool
lengths_ok n table out = every (whole_days n table ∷ eqb out table ∷ [])

-- what either call answers, by the lengths of what it is given and of its output: "22 .., after 1"
abbrev pub laid_rules : ℕ → ℕ → ℕ → List Rule
laid_rules interval table out =
    rule OutsideBounds (not (interval_ok interval)) ∷ rule WrongTable (not (lengths_ok (per_day interval) table out)) ∷ []

unfoldable pub laid_answer : ℕ → ℕ → ℕ → Result (Unit {0}) Refusal
laid_answer interval table out = tested (laid_rules interval table out)

-- a refusal changes no byte
abbrev pub laid_in : Result (Unit {0}) Refusal → List ℕ → List ℕ → List ℕ
laid_in (Ok _) laid out = laid
laid_in (Err r) laid out = out

-- what either call leaves in its output, given what it lays there
unfoldable pub laid_after : ℕ → List ℕ → List ℕ → List ℕ → List ℕ
laid_after interval given laid out = laid_in (laid_answer interval (length given) (length out)) laid out

abbrev pub to_strips_after : ℕ → List ℕ → List ℕ → List ℕ
to_strips_after interval table out = laid_after interval table (strips_of (per_day interval) table) out

abbrev pub from_strips_after : ℕ → List ℕ → List ℕ → List ℕ
from_strips_after interval strips out = laid_after interval strips (table_of (per_day interval) strips) out
