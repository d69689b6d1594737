-- The lent lists that calls write: what they hold, and that they are the same lists (01, Opening; 02, W1, W6 and W10).
use Rattle.std.specs.Prelude.{◌≡◌}
use Rattle.rules.specs.Opening.{Slots, Agreed}
use Rattle.rules.specs.Lent.{slots, agreed_lists}
use Rattle.book.specs.declared.lent.SlotsMut.{SlotsMut}
use Rattle.book.specs.declared.lent.ReadsMut.{ReadsMut}
use Rattle.book.specs.declared.lent.AgreedMut.{AgreedMut}
use Rattle.book.specs.declared.lent.BookMut.{BookMut}
use Rattle.book.specs.Cells.{Reads, Book}
use Rattle.book.specs.Lent.{read_lists, lent_book}

-- what the lists hold
abbrev pub written_slots : SlotsMut → Slots
written_slots s = slots s.values.now s.versions.now s.statuses.now

abbrev pub written_reads : ReadsMut → Reads
written_reads r = read_lists r.readings.now r.read_versions.now r.widths.now

abbrev pub written_agreed : AgreedMut → Agreed
written_agreed a = agreed_lists a.values.now a.versions.now

abbrev pub written_book : BookMut → Book
written_book b = lent_book b.values.now b.versions.now b.statuses.now b.holidays.now b.readings.now b.read_versions.now b.agreed.now
    b.agreed_versions.now b.counts.now b.widths.now

-- the same lists, whatever they hold
pub record SameSlots (a b : SlotsMut) : Type 0 where
  pub values : b.values.ghost_name ≡ a.values.ghost_name
  pub versions : b.versions.ghost_name ≡ a.versions.ghost_name
  pub statuses : b.statuses.ghost_name ≡ a.statuses.ghost_name

pub record SameReads (a b : ReadsMut) : Type 0 where
  pub readings : b.readings.ghost_name ≡ a.readings.ghost_name
  pub read_versions : b.read_versions.ghost_name ≡ a.read_versions.ghost_name
  pub widths : b.widths.ghost_name ≡ a.widths.ghost_name

pub record SameAgreed (a b : AgreedMut) : Type 0 where
  pub values : b.values.ghost_name ≡ a.values.ghost_name
  pub versions : b.versions.ghost_name ≡ a.versions.ghost_name

pub record SameBook (a b : BookMut) : Type 0 where
  pub values : b.values.ghost_name ≡ a.values.ghost_name
  pub versions : b.versions.ghost_name ≡ a.versions.ghost_name
  pub statuses : b.statuses.ghost_name ≡ a.statuses.ghost_name
  pub holidays : b.holidays.ghost_name ≡ a.holidays.ghost_name
  pub readings : b.readings.ghost_name ≡ a.readings.ghost_name
  pub read_versions : b.read_versions.ghost_name ≡ a.read_versions.ghost_name
  pub agreed : b.agreed.ghost_name ≡ a.agreed.ghost_name
  pub agreed_versions : b.agreed_versions.ghost_name ≡ a.agreed_versions.ghost_name
  pub counts : b.counts.ghost_name ≡ a.counts.ghost_name
  pub widths : b.widths.ghost_name ≡ a.widths.ghost_name
