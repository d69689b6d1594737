-- The lent lists: their lengths (01, Opening; 2), and the cells that no calls could leave (11; 02, W1, W6 and W10).
use Rattle.std.specs.Prelude.{Bool, true, cond, not, ◌&&◌, ◌||◌, List, [], ◌∷◌, ℕ, suc, ◌*◌, ltb, eqb, length, get_or}
use Rattle.base.specs.Lists.{every, sum, any}
use Rattle.base.specs.Numbers.{eight_digits}
use Rattle.rules.specs.declared.Head.{Head}
use Rattle.rules.specs.Opening.{slots_per_day, slot_count, Slots, Agreed, Cells}
use Rattle.rules.specs.Numbers.{most_width}
use Rattle.rules.specs.Lent.{cells}

-- the lent lists of boundaries, the widths last (02, W10)
pub record Reads : Type 0 where
  pub readings : List ℕ
  pub read_versions : List ℕ
  pub widths : List ℕ

abbrev pub reads_of : Cells → Reads
reads_of b = record { readings = b.readings; read_versions = b.read_versions; widths = b.widths }

-- cells with other slots, holidays, reads or agreed lists
abbrev pub with_slots : Cells → Slots → Cells
with_slots b s = cells s b.holidays b.readings b.read_versions b.agreed b.widths

abbrev pub with_holidays : Cells → List ℕ → Cells
with_holidays b holidays = cells b.slots holidays b.readings b.read_versions b.agreed b.widths

abbrev pub with_reads : Cells → Reads → Cells
with_reads b r = cells b.slots b.holidays r.readings r.read_versions b.agreed r.widths

abbrev pub with_agreed : Cells → Agreed → Cells
with_agreed b a = cells b.slots b.holidays b.readings b.read_versions a b.widths

-- the lent lists of a book: the cells that the rules read, and the counts of delivered slots (02, W6)
pub record Book : Type 0 where
  pub cells : Cells
  pub counts : List ℕ

-- each of these lengths is n
unfoldable pub all_long : ℕ → List ℕ → Bool
all_long n [] = true
all_long n (l ∷ ls) = eqb l n && all_long n ls

-- N, D and D + 1 long; the agreed lists N long (02, W1)
unfoldable pub slots_fit : Head → Slots → Bool
slots_fit h s = all_long (slot_count h) (length s.values ∷ length s.versions ∷ length s.statuses ∷ [])

unfoldable pub days_fit : Head → List ℕ → Bool
days_fit h holidays = all_long h.days (length holidays ∷ [])

unfoldable pub reads_fit : Head → Reads → Bool
reads_fit h r = all_long (suc h.days) (length r.readings ∷ length r.read_versions ∷ length r.widths ∷ [])

unfoldable pub agreed_fits : Head → Agreed → Bool
agreed_fits h a = all_long (slot_count h) (length a.values ∷ length a.versions ∷ [])

abbrev pub cells_fits : Head → Cells → List Bool
cells_fits h b = slots_fit h b.slots ∷ days_fit h b.holidays ∷ reads_fit h (reads_of b) ∷ agreed_fits h b.agreed ∷ []

unfoldable pub cells_fit : Head → Cells → Bool
cells_fit h b = every (cells_fits h b)

-- the counts D long (02, W6)
unfoldable pub counts_fit : Head → List ℕ → Bool
counts_fit h counts = all_long h.days (length counts ∷ [])

unfoldable pub book_fits : Head → Book → Bool
book_fits h b = cells_fit h b.cells && counts_fit h b.counts

-- status over 7, or version 0 beside a non-zero value or status
unfoldable pub slot_fault : ℕ → ℕ → ℕ → Bool
slot_fault version value status = ltb 7 status || (eqb version 0 && (not (eqb value 0) || not (eqb status 0)))

-- holiday over 1
unfoldable pub day_fault : ℕ → Bool
day_fault cell = ltb 1 cell

-- a number over its limit, or a non-zero one beside version 0
unfoldable pub number_fault : ℕ → ℕ → ℕ → Bool
number_fault limit version number = ltb limit number || (eqb version 0 && not (eqb number 0))

-- of a reading 99,999,999 is the limit, of a width 9,999 (02, W10)
unfoldable pub read_fault : ℕ → ℕ → ℕ → Bool
read_fault version reading width = number_fault eight_digits version reading || number_fault most_width version width

-- of an agreed value 99,999,999 (02, W1)
abbrev pub agreed_fault : ℕ → ℕ → Bool
agreed_fault version value = number_fault eight_digits version value

-- the same of a place in the lists
abbrev pub slot_fault_at : Slots → ℕ → Bool
slot_fault_at s i = slot_fault (get_or s.versions i 0) (get_or s.values i 0) (get_or s.statuses i 0)

abbrev pub day_fault_at : List ℕ → ℕ → Bool
day_fault_at holidays day = day_fault (get_or holidays day 0)

abbrev pub read_fault_at : Reads → ℕ → Bool
read_fault_at r boundary = read_fault (get_or r.read_versions boundary 0) (get_or r.readings boundary 0) (get_or r.widths boundary 0)

abbrev pub agreed_fault_at : Agreed → ℕ → Bool
agreed_fault_at a i = agreed_fault (get_or a.versions i 0) (get_or a.values i 0)

-- no slot, day or boundary has a cell that no calls could leave, nor has an agreed slot
unfoldable pub cells_ok : Head → Cells → Bool
cells_ok h b =
    every
    (not (any (slot_fault_at b.slots) 0 (slot_count h))
    ∷ not (any (day_fault_at b.holidays) 0 h.days)
    ∷ not (any (read_fault_at (reads_of b)) 0 (suc h.days))
    ∷ not (any (agreed_fault_at b.agreed) 0 (slot_count h))
    ∷ [])

-- the number of delivered slots, those with a version above 0, in day d (02, W6)
unfoldable pub delivered_in : Head → List ℕ → ℕ → ℕ
delivered_in h versions d = sum (λ i. cond (ltb 0 (get_or versions i 0)) 1 0) (d * slots_per_day h) (slots_per_day h)

-- a count that differs from it
abbrev pub count_fault_at : Head → List ℕ → List ℕ → ℕ → Bool
count_fault_at h versions counts d = not (eqb (get_or counts d 0) (delivered_in h versions d))

unfoldable pub book_ok : Head → Book → Bool
book_ok h b = cells_ok h b.cells && not (any (count_fault_at h b.cells.slots.versions b.counts) 0 h.days)
