-- What the functions that write a table or its strips know between two slots.
use Rattle.std.specs.Prelude.{◌≡◌, List, [], ◌∷◌, ℕ, ◌+◌, ◌*◌, ◌%◌, ◌<◌, length, get_or, set}
use Rattle.strips.specs.Strips.{slots_of, byte_of, in_table, in_strips, value_at, day_earlier, difference_at, difference_in}

-- byte k of the record at place at, whose bytes stand step apart
abbrev pub spaced : List ℕ → ℕ → ℕ → ℕ → ℕ
spaced bytes at step k = get_or bytes (at + k * step) 0

-- the six bytes of a record
abbrev pub record_of : ℕ → ℕ → ℕ → List ℕ
record_of value letter method = byte_of value 0 ∷ byte_of value 1 ∷ byte_of value 2 ∷ byte_of value 3 ∷ letter ∷ method ∷ []

-- a buffer after bytes are written step apart, from place at on
unfoldable pub strewn : List ℕ → ℕ → ℕ → List ℕ → List ℕ
strewn d at step [] = d
strewn d at step (b ∷ bs) = strewn (set d at b) (at + step) step bs

-- strips d with what is stored of slot i
unfoldable pub stored_in : ℕ → List ℕ → List ℕ → ℕ → List ℕ
stored_in n table d i =
    strewn d i (slots_of table) (record_of (difference_at n table i) (in_table table i 4) (in_table table i 5))

-- a table d with slot i, whose value a day earlier it has
unfoldable pub restored_in : ℕ → List ℕ → List ℕ → ℕ → List ℕ
restored_in n strips d i =
    strewn d (6 * i) 1
    (record_of ((day_earlier n (value_at d) i + difference_in strips i) % 4_294_967_296) (in_strips strips i 4) (in_strips strips i 5))

-- whole records, and an output of the same length
pub record Sized (n : ℕ) (given out : List ℕ) : Type 0 where
  pub positive : 0 < n
  pub whole : length given ≡ 6 * slots_of given
  pub room : length out ≡ length given

pub record Slot (n : ℕ) (given out : List ℕ) (i : ℕ) : Type 0 where
  pub sized : Sized n given out
  pub inside : i < slots_of given
