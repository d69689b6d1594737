-- The plain book of a run: one span, and of each slot that is not lost its true value.
use mathlib.Core.Bool.{Bool, true, false, cond}
use mathlib.Core.List.{List, [], ◌∷◌}
use mathlib.Core.Logic.{⊎_elim}
use mathlib.Core.Path.{◌≡◌, refl, ap, ◌∙◌}
use Prim.Native.Nat.{ℕ, suc, ◌<◌, ◌≤◌}
use native.Mathlib.Omega.{arith}
use lib.Dec.{ltb, eqb}
use lib.ListN.{get_or, get_or-eq_default}
use borrow.Author.Tests.{eq-eqb, ne_eqb, ltb-true, ltb-false}
use Rattle.base.specs.Lists.{up_to}
use Rattle.base.proofs.Lists.{up_to_at, length_up_to}
use Rattle.base.proofs.Logic.{either}
use Rattle.rules.specs.declared.Head.{Head}
use Rattle.rules.specs.Opening.{head_ok, slot_count, Cells}
use Rattle.rules.specs.Spans.{is_read}
use Rattle.rules.proofs.Bounds.{bounded}
use Rattle.book.specs.Arguments.{Call}
use Rattle.book.specs.Contents.{DialRead}
use Rattle.book.specs.Plain.{Said, deliveries, kept_reads, highest_version, content_with, read_version, read_content, slot_version}
use Rattle.book.specs.Plain.{slot_content}
use Rattle.book.specs.Plain.{book_of}
use Rattle.claim.specs.Claim.{plain_of}
use Rattle.berth.specs.Steps.{lost_at, value_at}
use Rattle.berth.specs.Run.{run_calls}
use Rattle.berth.proofs.Heard.{reading, all_calls, heard_all, kept_run}
use Rattle.berth.proofs.OneSpan.{Ends}

module _ (h : Head) (seed loss : ℕ) (good : head_ok h ≡ true) where
  abbrev all : List Call
  all = all_calls h seed loss good

  abbrev pub book : Cells
  book = book_of h all

  pub book_run : plain_of h (run_calls h seed loss) ≡ book
  book_run = ap (book_of h) (kept_run h seed loss good)

  some_days : 0 < h.days
  some_days = omega (arith, (bounded h good).days_low)

  -- the reads of each boundary
  first_read : read_version all 0 ≡ 1
  unfolding kept_reads highest_version
  first_read = rw (ne_eqb h.days 0 (λ e. omega (arith, some_days)), (heard_all h seed loss good).unread 0)

  last_read_lem : read_version all h.days ≡ 1
  unfolding kept_reads highest_version
  last_read_lem =
      rw (eq-eqb h.days h.days refl, ne_eqb 0 h.days (λ e. omega (arith, some_days)), (heard_all h seed loss good).unread h.days)

  none_read : (d : ℕ) → 0 < d → d < h.days → read_version all d ≡ 0
  unfolding kept_reads highest_version
  none_read d p q = rw (ne_eqb h.days d (λ e. omega arith), ne_eqb 0 d (λ e. omega arith), (heard_all h seed loss good).unread d)

  read_at_lem : (d : ℕ) → d ≤ h.days → get_or book.read_versions d 0 ≡ read_version all d
  unfolding book_of
  read_at_lem d le = up_to_at (read_version all) 0 (suc h.days) d (omega arith)

  pub ends : Ends h book.read_versions
  unfolding is_read
  ends = record {
    first = rw (read_at_lem 0 (omega arith), first_read);
    last = rw (read_at_lem h.days (omega arith), last_read_lem);
    none = λ d p q. rw (read_at_lem d (omega arith), none_read d p q);
  }

  -- every width is 0, and so is the reading at boundary 0
  width_none : (d : ℕ) → (read_content all d).width ≡ 0
  unfolding kept_reads highest_version content_with
  width_none d = rw ((heard_all h seed loss good).unread d) (go (eqb h.days d) (eqb 0 d))
    where
      said : ℕ → Said DialRead
      said x = record { version = 1; content = record { reading = x; width = 0 } }

      go : (s t : Bool)
          → (let l : List (Said DialRead) = cond s (said (reading h seed loss good) ∷ cond t (said 0 ∷ []) []) (cond t (said 0 ∷ []) []) in
          (content_with (record { reading = 0; width = 0 }) (highest_version l) l).width ≡ 0)
      go true true = refl
      go true false = refl
      go false true = refl
      go false false = refl

  pub sharp : (d : ℕ) → get_or book.widths d 0 ≡ 0
  unfolding book_of
  sharp d =
      ⊎_elim
      (λ t. up_to_at (λ x. (read_content all x).width) 0 (suc h.days) d (ltb-true _ _ t) ∙ width_none d)
      (λ t. get_or-eq_default (up_to (λ x. (read_content all x).width) 0 (suc h.days)) 0 {n = d} (rw length_up_to (ltb-false _ _ t)))
      (either (ltb d (suc h.days)))

  first_dial : (read_content all 0).reading ≡ 0
  unfolding kept_reads highest_version content_with
  first_dial = rw (ne_eqb h.days 0 (λ e. omega (arith, some_days)), (heard_all h seed loss good).unread 0)

  last_dial : (read_content all h.days).reading ≡ reading h seed loss good
  unfolding kept_reads highest_version content_with
  last_dial =
      rw (eq-eqb h.days h.days refl, ne_eqb 0 h.days (λ e. omega (arith, some_days)), (heard_all h seed loss good).unread h.days)

  pub dial_first : get_or book.readings 0 0 ≡ 0
  unfolding book_of
  dial_first = up_to_at (λ x. (read_content all x).reading) 0 (suc h.days) 0 (omega arith) ∙ first_dial

  pub dial_last : get_or book.readings h.days 0 ≡ reading h seed loss good
  unfolding book_of
  dial_last = up_to_at (λ x. (read_content all x).reading) 0 (suc h.days) h.days (omega arith) ∙ last_dial

  -- a slot that is not lost has its true value as version 1, status 0
  module _ (i : ℕ) (lt : i < slot_count h) (kept : lost_at h seed loss i ≡ false) where
    its_calls : deliveries i all ≡ record { version = 1; content = record { value = value_at h seed loss i; status = 0 } } ∷ []
    unfolding deliveries
    its_calls = (heard_all h seed loss good).before i lt ∙ rw kept

    pub its_version : get_or book.slots.versions i 0 ≡ 1
    unfolding book_of highest_version
    its_version = up_to_at (slot_version all) 0 (slot_count h) i lt ∙ rw its_calls

    pub its_value : get_or book.slots.values i 0 ≡ value_at h seed loss i
    unfolding book_of highest_version content_with
    its_value = up_to_at (λ k. (slot_content all k).value) 0 (slot_count h) i lt ∙ rw its_calls

    pub its_status : get_or book.slots.statuses i 0 ≡ 0
    unfolding book_of highest_version content_with
    its_status = up_to_at (λ k. (slot_content all k).status) 0 (slot_count h) i lt ∙ rw its_calls
