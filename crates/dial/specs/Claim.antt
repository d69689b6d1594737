-- "A reading converts to these bytes and back, every reading from 0 to 99,999,999 having one form." (02, W9)
use Rattle.std.specs.Prelude.{Ok, List, ◌↔◌, ◌≡◌, ℕ, ◌≤◌, length}
use Rattle.base.specs.Numbers.{eight_digits}
use Rattle.dial.specs.Dial.{form, pack_answer, pack_after, unpack_answer}

-- every reading from 0 to 99,999,999 has one form: `unpack` answers it of those bytes and of no others; proved by `one_form`
abbrev pub OneForm : Type 0
OneForm =
    (reading : ℕ) → reading ≤ eight_digits → (bytes : List ℕ) → (unpack_answer bytes ≡ Ok reading) ↔ (bytes ≡ form reading)

-- `unpack` accepts exactly the forms of readings, each as its reading; proved by `accepts_exactly`
abbrev pub AcceptsExactly : Type 0
AcceptsExactly =
    (bytes : List ℕ) (reading : ℕ) → (unpack_answer bytes ≡ Ok reading) ↔ ((reading ≤ eight_digits) × (form reading ≡ bytes))

-- a reading that `pack` takes comes back from the bytes that it leaves; proved by `packed_then_unpacked`
abbrev pub PackedThenUnpacked : Type 0
PackedThenUnpacked =
    (reading : ℕ) (bytes : List ℕ) → pack_answer reading bytes ≡ Ok tt
    → unpack_answer (pack_after reading bytes) ≡ Ok reading

-- bytes that `unpack` takes come back, in any four bytes, from the reading that it answers; proved by `unpacked_then_packed`
abbrev pub UnpackedThenPacked : Type 0
UnpackedThenPacked =
    (bytes : List ℕ) (reading : ℕ) → unpack_answer bytes ≡ Ok reading → (held : List ℕ) → length held ≡ 4
    → (pack_answer reading held ≡ Ok tt) × (pack_after reading held ≡ bytes)
