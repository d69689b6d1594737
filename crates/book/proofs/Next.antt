-- One more accepted call changes the book of the kept calls as filing it changes the cells.
use mathlib.Core.Path.{◌≡◌, refl, sym}
use mathlib.Core.Bool.{Bool, true, false, cond, ◌&&◌, true≢false}
use mathlib.Core.List.{List, ◌∷◌}
use Prim.Native.Nat.{ℕ, suc, ◌/◌}
use lib.Dec.{eqb}
use borrow.Author.Tests.{eqb-true, eq-eqb, ne_eqb}
use Rattle.base.specs.Lists.{up_to}
use Rattle.base.proofs.Logic.{and_parts}
use Rattle.rules.specs.declared.Head.{Head}
use Rattle.rules.specs.Opening.{slots_per_day, slot_count, Cells}
use Rattle.rules.specs.Lent.{agreed_lists}
use Rattle.book.specs.Answers.{Answer, is_accepted, is_stored, by_version}
use Rattle.book.specs.Answers.Answer.{done, stored, late, repeat, refused}
use Rattle.book.specs.Arguments.{Call}
use Rattle.book.specs.Arguments.Call.{delivery, holiday, register, agreed}
use Rattle.book.specs.Cells.{Book, with_slots, with_holidays, with_reads, with_agreed}
use Rattle.book.specs.Filling.{stored_in, slots_with, counts_with, deliver_after, counts_after, holiday_after, register_after, agree_after}
use Rattle.book.specs.Filling.{answer, after}
use Rattle.book.specs.Contents.{Measured, DialRead}
use Rattle.book.specs.Plain.{Said, deliveries, kept_reads, agreements, named, highest_version, slot_version, slot_content, read_version}
use Rattle.book.specs.Plain.{read_content, against_kept, book_of}
use Rattle.book.specs.Lent.{read_lists}
use Rattle.book.proofs.Tables.{up_to_filed}
use Rattle.book.proofs.Said.{latest, said_filed}

-- the cells after a call with this answer
unfoldable pub filed_in : Answer → Cells → Call → Cells
filed_in a b (delivery slot version value status) = with_slots b (slots_with a b.slots slot version value status)
filed_in a b (holiday day) = with_holidays b (stored_in a b.holidays day 1)
filed_in a b (register boundary version reading width) =
    with_reads b
    (read_lists (stored_in a b.readings boundary reading) (stored_in a b.read_versions boundary version)
    (stored_in a b.widths boundary width))
filed_in a b (agreed slot version value) =
    with_agreed b (agreed_lists (stored_in a b.agreed.values slot value) (stored_in a b.agreed.versions slot version))

-- the counts after it
unfoldable pub counted_in : Head → Answer → Book → Call → List ℕ
counted_in h a b (delivery slot version value status) = counts_with a b.cells.slots.versions b.counts slot (slot / slots_per_day h)
counted_in h a b (holiday day) = b.counts
counted_in h a b (register boundary version reading width) = b.counts
counted_in h a b (agreed slot version value) = b.counts

abbrev pub booked : Head → Answer → Book → Call → Book
booked h a b c = record { cells = filed_in a b.cells c; counts = counted_in h a b c }

pub after_filed : (h : Head) (b : Book) (c : Call) → after h b c ≡ booked h (answer h b c) b c
unfolding after answer deliver_after counts_after holiday_after register_after agree_after filed_in counted_in
after_filed h b (delivery slot version value status) = refl
after_filed h b (holiday day) = refl
after_filed h b (register boundary version reading width) = refl
after_filed h b (agreed slot version value) = refl

not_stored : (a : Answer) → is_accepted a ≡ false → is_stored a ≡ false
not_stored done e = refl
not_stored (refused n) e = refl
not_stored stored e = absurd (true≢false e)
not_stored late e = absurd (true≢false e)
not_stored repeat e = absurd (true≢false e)

-- a call that is not accepted changes nothing
pub filed_refused : (h : Head) (a : Answer) (b : Book) (c : Call) → is_accepted a ≡ false → booked h a b c ≡ b
unfolding filed_in counted_in
filed_refused h a b (delivery slot version value status) e = rw (not_stored a e)
filed_refused h a b (holiday day) e = rw (not_stored a e)
filed_refused h a b (register boundary version reading width) e = rw (not_stored a e)
filed_refused h a b (agreed slot version value) e = rw (not_stored a e)

-- equal tests of the content mean equal content
pub same_measured_lem : (m : Measured) (value status : ℕ) → (eqb m.value value && eqb m.status status) ≡ true
    → ◌≡◌ {A = Measured} (record { value = value; status = status }) m
same_measured_lem m value status e =
    let parts = and_parts (eqb m.value value) (eqb m.status status) e in
    λ t. record { value = sym (eqb-true m.value value parts.0) t; status = sym (eqb-true m.status status parts.1) t }

pub same_read_lem : (r : DialRead) (reading width : ℕ) → (eqb r.reading reading && eqb r.width width) ≡ true
    → ◌≡◌ {A = DialRead} (record { reading = reading; width = width }) r
same_read_lem r reading width e =
    let parts = and_parts (eqb r.reading reading) (eqb r.width width) e in
    λ t. record { reading = sym (eqb-true r.reading reading parts.0) t; width = sym (eqb-true r.width width parts.1) t }

-- the lists of slots, when one accepted delivery more is kept
module _ (h : Head) (kept : List Call) (slot version value status : ℕ) where
  same_slot : Bool
  same_slot = eqb (slot_content kept slot).value value && eqb (slot_content kept slot).status status

  slots_next : is_accepted (by_version (slot_version kept slot) version same_slot) ≡ true → (m : ℕ → Measured → ℕ)
      → up_to (λ i. m (slot_version (delivery slot version value status ∷ kept) i)
      (slot_content (delivery slot version value status ∷ kept) i)) 0 (slot_count h)
      ≡ stored_in (by_version (slot_version kept slot) version same_slot)
      (up_to (λ i. m (slot_version kept i) (slot_content kept i)) 0 (slot_count h))
      slot (m version (record { value = value; status = status }))
  unfolding deliveries same_slot
  slots_next ok m =
      said_filed (record { value = 0; status = 0 }) (λ i. deliveries i kept) (λ i. deliveries i (delivery slot version value status ∷ kept))
      slot
      (record { version = version; content = record { value = value; status = status } }) same_slot
      (same_measured_lem (slot_content kept slot) value status) ok (rw (eq-eqb slot slot refl)) (λ i ne. rw (ne_eqb slot i ne)) m
      (slot_count h)

-- the lists of boundaries, when one accepted register read more is kept
module _ (h : Head) (kept : List Call) (boundary version reading width : ℕ) where
  same_read : Bool
  same_read = eqb (read_content kept boundary).reading reading && eqb (read_content kept boundary).width width

  reads_next : is_accepted (by_version (read_version kept boundary) version same_read) ≡ true → (m : ℕ → DialRead → ℕ)
      → up_to (λ d. m (read_version (register boundary version reading width ∷ kept) d)
      (read_content (register boundary version reading width ∷ kept) d)) 0 (suc h.days)
      ≡ stored_in (by_version (read_version kept boundary) version same_read)
      (up_to (λ d. m (read_version kept d) (read_content kept d)) 0 (suc h.days))
      boundary (m version (record { reading = reading; width = width }))
  unfolding kept_reads same_read
  reads_next ok m =
      said_filed (record { reading = 0; width = 0 }) (λ d. kept_reads d kept)
      (λ d. kept_reads d (register boundary version reading width ∷ kept)) boundary
      (record { version = version; content = record { reading = reading; width = width } }) same_read
      (same_read_lem (read_content kept boundary) reading width) ok (rw (eq-eqb boundary boundary refl)) (λ d ne. rw (ne_eqb boundary d ne))
      m
      (suc h.days)

-- the list of holidays, when one holiday more is kept
days_next : (h : Head) (kept : List Call) (day : ℕ)
    → up_to (λ d. cond (named d (holiday day ∷ kept)) 1 0) 0 h.days
    ≡ stored_in (cond (named day kept) repeat stored) (up_to (λ d. cond (named d kept) 1 0) 0 h.days) day 1
unfolding named
days_next h kept day =
    up_to_filed (λ d. cond (named d kept) 1 0) (λ d. cond (named d (holiday day ∷ kept)) 1 0) h.days day 1
    (λ d ne. rw (ne_eqb day d ne)) (cond (named day kept) repeat stored) (rw (eq-eqb day day refl) (here (named day kept)))
  where
    here : (t : Bool) → ◌≡◌ {A = ℕ} 1 (cond (is_stored (cond t repeat stored)) 1 (cond t 1 0))
    here true = refl
    here false = refl

-- a table of agreed values, when one accepted call more is for place j
numbers_next : (of next : ℕ → List (Said ℕ)) (j : ℕ) (s : Said ℕ) (n : ℕ)
    → is_accepted (by_version (highest_version (of j)) s.version (eqb (latest 0 (of j)) s.content)) ≡ true
    → next j ≡ s ∷ of j → ((i : ℕ) → (j ≡ i → ⊥) → next i ≡ of i) → (m : ℕ → ℕ → ℕ)
    → up_to (λ i. m (highest_version (next i)) (latest 0 (next i))) 0 n
    ≡ stored_in (by_version (highest_version (of j)) s.version (eqb (latest 0 (of j)) s.content))
    (up_to (λ i. m (highest_version (of i)) (latest 0 (of i))) 0 n) j (m s.version s.content)
numbers_next of next j s n ok here there m =
    said_filed 0 of next j s (eqb (latest 0 (of j)) s.content) (λ e. sym (eqb-true _ _ e)) ok here there m n

-- the book of one more accepted call is the book before with the call filed in it
pub book_next : (h : Head) (kept : List Call) (c : Call) → is_accepted (against_kept kept c) ≡ true
    → book_of h (c ∷ kept) ≡ filed_in (against_kept kept c) (book_of h kept) c
unfolding book_of filed_in against_kept deliveries kept_reads agreements named same_slot same_read
book_next h kept (delivery slot version value status) ok =
    let column = slots_next h kept slot version value status ok in
    λ t. record {
      slots = record { values = column (λ v a. a.value) t; versions = column (λ v a. v) t; statuses = column (λ v a. a.status) t };
      holidays = (book_of h kept).holidays;
      readings = (book_of h kept).readings;
      read_versions = (book_of h kept).read_versions;
      agreed = (book_of h kept).agreed;
      widths = (book_of h kept).widths;
    }
book_next h kept (holiday day) ok = λ t. record {
  slots = (book_of h kept).slots;
  holidays = days_next h kept day t;
  readings = (book_of h kept).readings;
  read_versions = (book_of h kept).read_versions;
  agreed = (book_of h kept).agreed;
  widths = (book_of h kept).widths;
}
book_next h kept (register boundary version reading width) ok =
    let column = reads_next h kept boundary version reading width ok in
    λ t. record {
      slots = (book_of h kept).slots;
      holidays = (book_of h kept).holidays;
      readings = column (λ v a. a.reading) t;
      read_versions = column (λ v a. v) t;
      agreed = (book_of h kept).agreed;
      widths = column (λ v a. a.width) t;
    }
book_next h kept (agreed slot version value) ok =
    let column =
    numbers_next (λ i. agreements i kept) (λ i. agreements i (agreed slot version value ∷ kept)) slot
    (record { version = version; content = value })
    (slot_count h) ok (rw (eq-eqb slot slot refl)) (λ i ne. rw (ne_eqb slot i ne)) in
    λ t. record {
      slots = (book_of h kept).slots;
      holidays = (book_of h kept).holidays;
      readings = (book_of h kept).readings;
      read_versions = (book_of h kept).read_versions;
      agreed = record { values = column (λ v a. a) t; versions = column (λ v a. v) t };
      widths = (book_of h kept).widths;
    }
