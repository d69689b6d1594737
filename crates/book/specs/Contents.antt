-- What a call says besides its place and version: a delivery, and a register read (02, W10); an agreed call's content is its value.
use Rattle.std.specs.Prelude.{Bool, ◌&&◌, ℕ, eqb, get_or}
use Rattle.rules.specs.Opening.{Slots}
use Rattle.book.specs.Cells.{Reads}

pub record Measured : Type 0 where
  pub value : ℕ
  pub status : ℕ

pub record DialRead : Type 0 where
  pub reading : ℕ
  pub width : ℕ

abbrev pub measured : ℕ → ℕ → Measured
measured value status = record { value = value; status = status }

abbrev pub dial_read : ℕ → ℕ → DialRead
dial_read reading width = record { reading = reading; width = width }

-- the contents in the cells of a slot, and of a boundary
abbrev pub measured_at : Slots → ℕ → Measured
measured_at s slot = measured (get_or s.values slot 0) (get_or s.statuses slot 0)

abbrev pub read_at : Reads → ℕ → DialRead
read_at r boundary = dial_read (get_or r.readings boundary 0) (get_or r.widths boundary 0)

-- equal contents
abbrev pub same_measured : Measured → Measured → Bool
same_measured old new = eqb old.value new.value && eqb old.status new.status

-- "The width is part of the content that a repeat compares" (02, W10)
abbrev pub same_read : DialRead → DialRead → Bool
same_read old new = eqb old.reading new.reading && eqb old.width new.width
