-- The lent lists as the contracts name them: what they hold now, as the records of Opening (01, Opening; 02, W1 and W10).
use Rattle.std.specs.Prelude.{List, ℕ}
use Rattle.rules.specs.declared.Slots.{Slots as LentSlots}
use Rattle.rules.specs.declared.Agreed.{Agreed as LentAgreed}
use Rattle.rules.specs.declared.Cells.{Cells as LentCells}
use Rattle.rules.specs.Opening.{Slots, Agreed, Cells}

-- what the lent lists of a struct hold now
abbrev pub slots_in : LentSlots → Slots
slots_in s = record { values = s.values.now; versions = s.versions.now; statuses = s.statuses.now }

abbrev pub agreed_in : LentAgreed → Agreed
agreed_in a = record { values = a.values.now; versions = a.versions.now }

abbrev pub cells_in : LentCells → Cells
cells_in b = record {
  slots = slots_in b.slots;
  holidays = b.holidays.now;
  readings = b.readings.now;
  read_versions = b.read_versions.now;
  agreed = agreed_in b.agreed;
  widths = b.widths.now;
}

abbrev pub slots : List ℕ → List ℕ → List ℕ → Slots
slots values versions statuses = record { values = values; versions = versions; statuses = statuses }

abbrev pub agreed_lists : List ℕ → List ℕ → Agreed
agreed_lists values versions = record { values = values; versions = versions }

abbrev pub cells : Slots → List ℕ → List ℕ → List ℕ → Agreed → List ℕ → Cells
cells s holidays readings read_versions agreed widths =
    record { slots = s; holidays = holidays; readings = readings; read_versions = read_versions; agreed = agreed; widths = widths }

abbrev pub lent_slots : List ℕ → List ℕ → List ℕ → Slots
lent_slots values versions statuses = slots values versions statuses

abbrev pub lent_agreed : List ℕ → List ℕ → Agreed
lent_agreed agreed agreed_versions = agreed_lists agreed agreed_versions

abbrev pub lent_cells : List ℕ → List ℕ → List ℕ → List ℕ → List ℕ → List ℕ → List ℕ
    → List ℕ → List ℕ → Cells
lent_cells values versions statuses holidays readings read_versions agreed agreed_versions widths =
    cells (lent_slots values versions statuses) holidays readings read_versions
    (lent_agreed agreed agreed_versions) widths
