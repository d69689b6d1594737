-- One call of any kind: what it answers and leaves in its own lists is what `answer` and `after` say of all lists.
use mathlib.Core.List.{List}
use mathlib.Core.Path.{◌≡◌}
use Prim.Native.Nat.{ℕ}
use Rattle.rules.specs.declared.Head.{Head}
use Rattle.rules.specs.Opening.{Slots, Cells}
use Rattle.rules.specs.Opening.{Agreed as AgreedLists}
use Rattle.rules.specs.Lent.{slots, agreed_lists}
use Rattle.book.specs.declared.calls.Call.{Call}
use Rattle.book.specs.declared.calls.Call.TheVariants.{Delivery, Holiday, Register, Agreed}
use Rattle.book.specs.Answers.{Answer}
use Rattle.book.specs.Arguments.{call_meant}
use Rattle.book.specs.Cells.{Reads, Book, reads_of, with_slots, with_holidays, with_reads, with_agreed}
use Rattle.book.specs.Lent.{read_lists, lent_book}
use Rattle.book.specs.Written.{written_slots, written_reads, written_agreed, written_book}
use Rattle.book.specs.declared.lent.SlotsMut.{SlotsMut}
use Rattle.book.specs.declared.lent.ReadsMut.{ReadsMut}
use Rattle.book.specs.declared.lent.AgreedMut.{AgreedMut}
use Rattle.book.specs.declared.lent.BookMut.{BookMut}
use Rattle.book.specs.Filling.{deliver_answer, deliver_after, counts_after, holiday_answer, holiday_after, register_answer, register_after}
use Rattle.book.specs.Filling.{agree_answer, agree_after, answer, after}

-- lists that are those of a struct, whatever its calls made of them
pub slots_are : (s : SlotsMut) {values versions statuses : List ℕ} {x : Slots} → values ≡ s.values.now → versions ≡ s.versions.now
    → statuses ≡ s.statuses.now → written_slots s ≡ x → slots values versions statuses ≡ x
slots_are s v w u e = rw (v, w, u) e

pub reads_are : (r : ReadsMut) {readings read_versions widths : List ℕ} {x : Reads} → readings ≡ r.readings.now
    → read_versions ≡ r.read_versions.now → widths ≡ r.widths.now → written_reads r ≡ x → read_lists readings read_versions widths ≡ x
reads_are r v w u e = rw (v, w, u) e

pub agreed_are : (a : AgreedMut) {values versions : List ℕ} {x : AgreedLists} → values ≡ a.values.now → versions ≡ a.versions.now
    → written_agreed a ≡ x → agreed_lists values versions ≡ x
agreed_are a v w e = rw (v, w) e

pub book_are : (b : BookMut) {values versions statuses holidays readings read_versions agreed agreed_versions counts widths : List ℕ}
    {x : Book} → values ≡ b.values.now → versions ≡ b.versions.now → statuses ≡ b.statuses.now → holidays ≡ b.holidays.now
    → readings ≡ b.readings.now → read_versions ≡ b.read_versions.now → agreed ≡ b.agreed.now → agreed_versions ≡ b.agreed_versions.now
    → counts ≡ b.counts.now → widths ≡ b.widths.now → written_book b ≡ x
    → lent_book values versions statuses holidays readings read_versions agreed agreed_versions counts widths ≡ x
book_are b v w u d r q a p c t e = rw (v, w, u, d, r, q, a, p, c, t) e

-- the lists of a book
abbrev pub book : Cells → List ℕ → Book
book b counts = record { cells = b; counts = counts }

module _ (h : Head) (b : Cells) (counts : List ℕ) (call : Call) (a : Answer) where
  pub delivered : (slot version value status : ℕ) (values versions statuses after-counts : List ℕ)
      → call ≡ Delivery slot version value status
      → a ≡ deliver_answer h b.slots counts slot version value status
      → slots values versions statuses ≡ deliver_after h b.slots counts slot version value status
      → after-counts ≡ counts_after h b.slots counts slot version value status
      → (a ≡ answer h (book b counts) (call_meant call))
      × (book (with_slots b (slots values versions statuses)) after-counts ≡ after h (book b counts) (call_meant call))
  unfolding answer after
  delivered slot version value status values versions statuses after-counts k e p s =
      rw k (
        e,
        λ t. record { cells = with_slots b (p t); counts = s t },
      )

  pub named : (day : ℕ) (holidays : List ℕ) → call ≡ Holiday day → a ≡ holiday_answer h b.holidays day
      → holidays ≡ holiday_after h b.holidays day
      → (a ≡ answer h (book b counts) (call_meant call))
      × (book (with_holidays b holidays) counts ≡ after h (book b counts) (call_meant call))
  unfolding answer after
  named day holidays k e p =
      rw k (
        e,
        λ t. record { cells = with_holidays b (p t); counts = counts },
      )

  pub registered : (boundary version reading width : ℕ) (readings read_versions widths : List ℕ) → call ≡ Register boundary version reading
      width
      → a ≡ register_answer h (reads_of b) boundary version reading width
      → read_lists readings read_versions widths ≡ register_after h (reads_of b) boundary version reading width
      → (a ≡ answer h (book b counts) (call_meant call))
      × (book (with_reads b (read_lists readings read_versions widths)) counts ≡ after h (book b counts) (call_meant call))
  unfolding answer after
  registered boundary version reading width readings read_versions widths k e p =
      rw k (
        e,
        λ t. record { cells = with_reads b (p t); counts = counts },
      )

  pub settled : (slot version value : ℕ) (values versions : List ℕ) → call ≡ Agreed slot version value
      → a ≡ agree_answer h b.agreed slot version value
      → agreed_lists values versions ≡ agree_after h b.agreed slot version value
      → (a ≡ answer h (book b counts) (call_meant call))
      × (book (with_agreed b (agreed_lists values versions)) counts ≡ after h (book b counts) (call_meant call))
  unfolding answer after
  settled slot version value values versions k e p =
      rw k (
        e,
        λ t. record { cells = with_agreed b (p t); counts = counts },
      )
