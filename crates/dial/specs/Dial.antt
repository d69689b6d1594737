-- Dials in packed decimal (02, W9).
use Rattle.base.specs.declared.Refusal.TheVariants.{WrongLength, ReadingOver, HalfByteOver}
use Rattle.base.specs.declared.Refusal.{Refusal}
use Rattle.std.specs.Prelude.{Result, Ok, Err}
use Rattle.std.specs.Prelude.{Bool, false, not, ◌||◌, List, [], ◌∷◌, ℕ, ◌+◌, ◌*◌, ◌/◌, ◌%◌, ◌^◌, ltb, eqb, length}
use Rattle.base.specs.Refusals.{Rule, answered}
use Rattle.base.specs.Refusals.Rule.{rule}
use Rattle.base.specs.Numbers.{eight_digits}

-- ---- The form of a reading

-- decimal digit k of a reading, where digit 0 is the last
unfoldable pub digit : ℕ → ℕ → ℕ
digit k reading = reading / 10 ^ k % 10

-- "two digits a byte, .. higher digit in the upper half"
unfoldable pub byte_at : ℕ → ℕ → ℕ
byte_at i reading = 16 * digit (2 * i + 1) reading + digit (2 * i) reading

-- "four bytes, .. lowest byte first"
unfoldable pub form : ℕ → List ℕ
form reading = byte_at 0 reading ∷ byte_at 1 reading ∷ byte_at 2 reading ∷ byte_at 3 reading ∷ []

-- ---- The reading of bytes

-- the half bytes
abbrev pub upper : ℕ → ℕ
upper byte = byte / 16

abbrev pub lower : ℕ → ℕ
lower byte = byte % 16

-- "a half byte above 9"
unfoldable pub above_nine : List ℕ → Bool
above_nine [] = false
above_nine (byte ∷ bytes) = ltb 9 (upper byte) || ltb 9 (lower byte) || above_nine bytes

-- lowest byte first
unfoldable pub reading_of : List ℕ → ℕ
reading_of [] = 0
reading_of (byte ∷ bytes) = 10 * upper byte + lower byte + 100 * reading_of bytes

-- ---- What the two conversions answer

-- "other than four bytes is 2, before both"
abbrev pub not_four : List ℕ → Bool
not_four bytes = not (eqb (length bytes) 4)

-- 6 reading over 99,999,999
abbrev pub pack_rules : ℕ → List ℕ → List Rule
pack_rules reading bytes = rule WrongLength (not_four bytes) ∷ rule ReadingOver (ltb eight_digits reading) ∷ []

unfoldable pub pack_answer : ℕ → List ℕ → Result (Unit {0}) Refusal
pack_answer reading bytes = answered (pack_rules reading bytes) tt

-- what the bytes hold after an answer: a refusal changes none
abbrev pub bytes_after : Result (Unit {0}) Refusal → ℕ → List ℕ → List ℕ
bytes_after (Ok _) reading bytes = form reading
bytes_after (Err n) reading bytes = bytes

unfoldable pub pack_after : ℕ → List ℕ → List ℕ
pack_after reading bytes = bytes_after (pack_answer reading bytes) reading bytes

-- 16 a half byte above 9
abbrev pub unpack_rules : List ℕ → List Rule
unpack_rules bytes = rule WrongLength (not_four bytes) ∷ rule HalfByteOver (above_nine bytes) ∷ []

unfoldable pub unpack_answer : List ℕ → Result ℕ Refusal
unpack_answer bytes = answered (unpack_rules bytes) (reading_of bytes)
