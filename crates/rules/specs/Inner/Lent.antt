-- Lent lists of the lengths that a good head asks, with numbers in their bounds.
use Rattle.std.specs.Prelude.{true, List, ◌≡◌, ℕ, suc, ◌<◌, ◌≤◌, length, get_or}
use Rattle.base.specs.Numbers.{dial_modulus}
use Rattle.rules.specs.declared.Head.{Head}
use Rattle.rules.specs.Opening.{Slots, Agreed, Cells, head_ok, slot_count}
use Rattle.rules.specs.Numbers.{most_width}

-- a good head, and slot lists of its length
pub record Fitted (h : Head) (s : Slots) : Type 0 where
  pub head : head_ok h ≡ true
  pub values : length s.values ≡ slot_count h
  pub versions : length s.versions ≡ slot_count h
  pub statuses : length s.statuses ≡ slot_count h

-- the same with a list of holidays
pub record Lent (h : Head) (s : Slots) (days : List ℕ) : Type 0 where
  pub fitted : Fitted h s
  pub holidays : length days ≡ h.days

-- no agreed value is over 99,999,999
abbrev pub AgreedLow : Agreed → Type 0
AgreedLow a = (i : ℕ) → get_or a.values i 0 < dial_modulus

-- agreed lists of a head's length, with such values
pub record Settled (h : Head) (a : Agreed) : Type 0 where
  pub values : length a.values ≡ slot_count h
  pub versions : length a.versions ≡ slot_count h
  pub low : AgreedLow a

-- readings of an eight-digit dial
pub record Dialled (h : Head) (readings : List ℕ) : Type 0 where
  pub length : length readings ≡ suc h.days
  pub low : (d : ℕ) → get_or readings d 0 < dial_modulus

-- no width is over 9,999 (02, W10)
abbrev pub WidthsLow : List ℕ → Type 0
WidthsLow widths = (d : ℕ) → get_or widths d 0 ≤ most_width

-- a width for each boundary
pub record Widths (h : Head) (widths : List ℕ) : Type 0 where
  pub length : length widths ≡ suc h.days
  pub low : WidthsLow widths

-- a good head, and cells of its lengths with readings of an eight-digit dial, agreed values of eight digits and widths of four
pub record Whole (h : Head) (b : Cells) : Type 0 where
  pub lent : Lent h b.slots b.holidays
  pub dialled : Dialled h b.readings
  pub read_versions : length b.read_versions ≡ suc h.days
  pub settled : Settled h b.agreed
  pub widths : Widths h b.widths
