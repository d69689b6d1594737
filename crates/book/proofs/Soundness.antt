-- After any list of calls from an opening the lists have their lengths, and no cell or count is one that 11 speaks of.
use mathlib.Core.Path.{◌≡◌, refl}
use mathlib.Core.Bool.{true, false}
use mathlib.Core.List.{List, []}
use Prim.Native.Nat.{ℕ, suc, ◌<◌}
use native.Mathlib.Omega.{arith}
use Rattle.base.specs.Lists.{any}
use Rattle.base.proofs.Lists.{up_to_at}
use Rattle.base.proofs.Sums.{any_none}
use Rattle.rules.specs.declared.Head.{Head}
use borrow.Author.Tests.{eq-eqb}
use Rattle.rules.specs.Opening.{slot_count}
use Rattle.book.specs.Arguments.{Call}
use Rattle.book.specs.Cells.{reads_of, slot_fault_at, day_fault_at, read_fault_at, agreed_fault_at, count_fault_at, cells_ok, book_fits}
use Rattle.book.specs.Cells.{book_ok}
use Rattle.book.specs.Opening.{opened}
use Rattle.book.specs.Filling.{after_all}
use Rattle.book.specs.Plain.{kept_of, book_of, delivered_on, counts_of, lists_of}
use Rattle.book.proofs.Kept.{Kept, kept_of_kept}
use Rattle.book.proofs.Clean.{slot_clean, day_clean, read_clean, agreed_clean}
use Rattle.book.proofs.Agreement.{book_fits_lem, lists_agree}
use Rattle.book.proofs.Counting.{day_within, delivered_on_lem}

module _ (h : Head) (kept : List Call) (ok : Kept h kept) where
  slots_clean : any (slot_fault_at (book_of h kept).slots) 0 (slot_count h) ≡ false
  unfolding book_of
  slots_clean =
      any_none (slot_fault_at (book_of h kept).slots) 0 (slot_count h)
      (λ i l m. let lt : i < slot_count h = omega arith in simp up_to_at (slot_clean h kept ok i))

  days_clean : any (day_fault_at (book_of h kept).holidays) 0 h.days ≡ false
  unfolding book_of
  days_clean =
      any_none (day_fault_at (book_of h kept).holidays) 0 h.days
      (λ i l m. let lt : i < h.days = omega arith in simp up_to_at (day_clean h kept ok i))

  reads_clean : any (read_fault_at (reads_of (book_of h kept))) 0 (suc h.days) ≡ false
  unfolding book_of
  reads_clean =
      any_none (read_fault_at (reads_of (book_of h kept))) 0 (suc h.days)
      (λ i l m. let lt : i < suc h.days = omega arith in simp up_to_at (read_clean h kept ok i))

  agreements_clean : any (agreed_fault_at (book_of h kept).agreed) 0 (slot_count h) ≡ false
  unfolding book_of
  agreements_clean =
      any_none (agreed_fault_at (book_of h kept).agreed) 0 (slot_count h)
      (λ i l m. let lt : i < slot_count h = omega arith in simp up_to_at (agreed_clean h kept ok i))

  cells_ok_lem : cells_ok h (book_of h kept) ≡ true
  unfolding cells_ok
  cells_ok_lem = rw (slots_clean, days_clean, reads_clean, agreements_clean)

-- each count is the number of delivered slots in its day
count_right : (h : Head) (kept : List Call) (d : ℕ) → d < h.days
    → count_fault_at h (book_of h kept).slots.versions (counts_of h kept) d ≡ false
unfolding counts_of
count_right h kept d lt =
    rw (
      up_to_at (delivered_on h kept) 0 h.days d lt,
      delivered_on_lem h kept d (day_within h d lt),
      eq-eqb (delivered_on h kept d) (delivered_on h kept d) refl,
    )

counts_right : (h : Head) (kept : List Call) → any (count_fault_at h (book_of h kept).slots.versions (counts_of h kept)) 0 h.days ≡ false
counts_right h kept =
    any_none (count_fault_at h (book_of h kept).slots.versions (counts_of h kept)) 0 h.days
    (λ d l m. count_right h kept d (omega arith))

pub book_sound : (h : Head) (cs : List Call)
    → (book_fits h (after_all h (opened h) cs) ≡ true) × (book_ok h (after_all h (opened h) cs) ≡ true)
unfolding book_ok lists_of
book_sound h cs =
    rw (lists_agree h cs)
    (book_fits_lem h (kept_of h [] cs), rw (cells_ok_lem h (kept_of h [] cs) (kept_of_kept h [] cs tt), counts_right h (kept_of h [] cs)))
