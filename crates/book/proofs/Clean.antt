-- The kept calls leave no cell that no calls could leave, of a slot, a day, a boundary or an agreed slot.
use mathlib.Core.Path.{◌≡◌, refl}
use mathlib.Core.Bool.{Bool, true, false, cond}
use mathlib.Core.List.{List}
use Prim.Native.Nat.{ℕ, ◌<◌, ◌≤◌}
use native.Mathlib.Omega.{arith}
use borrow.Author.Tests.{le-ltb, ne_eqb}
use Rattle.rules.specs.declared.Head.{Head}
use Rattle.book.specs.Arguments.{Call}
use Rattle.book.specs.Cells.{slot_fault, day_fault, number_fault, read_fault, agreed_fault}
use Rattle.book.specs.Contents.{Measured, DialRead}
use Rattle.book.specs.Plain.{Said, deliveries, kept_reads, agreements, named, slot_version, slot_content, read_version, read_content}
use Rattle.book.specs.Plain.{agreed_version, agreed_content}
use Rattle.book.proofs.Said.{from}
use Rattle.book.proofs.Members.{delivered_as, read_as, agreed_as, deliveries_from, reads_from, agreements_from}
use Rattle.book.proofs.Kept.{Kept, Sound, kept_sound}

-- a number within its limit beside a version above 0
clean_number : (limit version number : ℕ) → 0 < version → number ≤ limit → number_fault limit version number ≡ false
unfolding number_fault
clean_number limit version number pos le = rw (le-ltb limit number le, ne_eqb version 0 (λ z. omega arith))

module _ (h : Head) (kept : List Call) (ok : Kept h kept) (i : ℕ) where
  pub slot_clean : slot_fault (slot_version kept i) (slot_content kept i).value (slot_content kept i).status ≡ false
  unfolding slot_fault
  slot_clean =
      from (record { value = 0; status = 0 }) (deliveries i kept) (λ v a. slot_fault v a.value a.status ≡ false) refl
      (λ s m. one s (kept_sound h kept (delivered_as i s) ok (deliveries_from i kept s m)))
    where
      one : (s : Said Measured) → Sound h (delivered_as i s) → slot_fault s.version s.content.value s.content.status ≡ false
      one s fine =
          let pos = fine.1 in
          rw (le-ltb 7 s.content.status fine.2, ne_eqb s.version 0 (λ z. omega arith))

  pub day_clean : day_fault (cond (named i kept) 1 0) ≡ false
  unfolding day_fault
  day_clean = go (named i kept)
    where
      go : (t : Bool) → day_fault (cond t 1 0) ≡ false
      go true = refl
      go false = refl

  pub read_clean : read_fault (read_version kept i) (read_content kept i).reading (read_content kept i).width ≡ false
  unfolding read_fault number_fault
  read_clean =
      from (record { reading = 0; width = 0 }) (kept_reads i kept) (λ v a. read_fault v a.reading a.width ≡ false) refl
      (λ s m. one s (kept_sound h kept (read_as i s) ok (reads_from i kept s m)))
    where
      one : (s : Said DialRead) → Sound h (read_as i s) → read_fault s.version s.content.reading s.content.width ≡ false
      one s fine =
          rw (
            clean_number 99_999_999 s.version s.content.reading fine.1 fine.2,
            clean_number 9999 s.version s.content.width fine.1 fine.3,
          )

  pub agreed_clean : agreed_fault (agreed_version kept i) (agreed_content kept i) ≡ false
  unfolding number_fault
  agreed_clean =
      from 0 (agreements i kept) (λ v a. agreed_fault v a ≡ false) refl
      (λ s m.
      let fine = kept_sound h kept (agreed_as i s) ok (agreements_from i kept s m) in
      clean_number 99_999_999 s.version s.content fine.1 fine.2)
