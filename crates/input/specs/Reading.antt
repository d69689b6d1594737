-- What reading the input says of itself.
use Rattle.std.specs.Prelude.{ℕ, ◌≤◌, ◌<◌, List, length, take, Option, Result, Ok, Err}
use Rattle.std.specs.Io.KnownBytes.{Consumes, IsAtEnd}

-- at most so many bytes were read
abbrev pub AtMost : {E : Type 0} → Result ℕ E → ℕ → Type 0
AtMost (Ok n) most = n ≤ most
AtMost (Err e) most = Unit {0}

-- of a reader whose bytes are known: those read are the first of the buffer, and where it has room left the reader is at its end
abbrev pub Takes : {E : Type 0} → Option (List ℕ) → Option (List ℕ) → Result ℕ E → List ℕ → Type 0
Takes old new (Ok n) buf = Consumes old new (take n buf) × (n < length buf → IsAtEnd new)
Takes old new (Err e) buf = (n : ℕ) × (n ≤ length buf) × Consumes old new (take n buf)
