-- Filing into cells and the plain book agree: the same answers, and the cells that the kept calls amount to.
use Rattle.base.specs.declared.Refusal.TheVariants.{OutsideBounds}
use mathlib.Core.Path.{◌≡◌, refl, sym, ap, ◌∙◌}
use mathlib.Core.Bool.{Bool, true, false, cond, not, ◌&&◌}
use mathlib.Core.List.{List, [], ◌∷◌}
use Prim.Native.Nat.{ℕ, suc, ◌/◌, ◌<◌}
use native.Mathlib.Omega.{arith}
use lib.Dec.{eqb}
use lib.ListN.{get_or}
use borrow.Author.Tests.{not-false, eq-eqb}
use Rattle.base.specs.Refusals.{unless}
use Rattle.base.specs.Refusals.Rule.{rule}
use Rattle.base.proofs.Lists.{length_up_to, up_to_at}
use Rattle.base.proofs.Logic.{passed}
use Rattle.base.proofs.Refusals.{unless_same}
use Rattle.rules.specs.declared.Head.{Head}
use Rattle.rules.specs.Opening.{head_ok, slots_per_day, slot_count}
use Rattle.rules.proofs.Bounds.{bounded, day_below}
use Rattle.book.specs.Answers.{Answer, is_accepted}
use Rattle.book.specs.Answers.Answer.{stored, repeat, refused}
use Rattle.book.specs.Arguments.{Call, argument_rules}
use Rattle.book.specs.Arguments.Call.{delivery, holiday, register, agreed}
use Rattle.book.specs.Cells.{reads_of, all_long, slots_fit, days_fit, reads_fit, agreed_fits, cells_fits, cells_fit, counts_fit, book_fits}
use Rattle.book.specs.Opening.{opened}
use Rattle.book.specs.Filling.{input_rules, against_slot, against_day, against_boundary, against_agreed, against_delivery, deliver_answer}
use Rattle.book.specs.Filling.{holiday_answer, register_answer, agree_answer, answer, after, answers, after_all}
use Rattle.book.specs.Plain.{deliveries, kept_reads, agreements, named, highest_version, content_with, against_kept, plain_answer, keep}
use Rattle.book.specs.Plain.{plain_answers, kept_of, book_of, delivered_on, counts_of, lists_of}
use Rattle.book.specs.Contents.{dial_read, read_at}
use Rattle.book.proofs.Tables.{up_to_zero}
use Rattle.book.proofs.Next.{counted_in, booked, after_filed, filed_refused, book_next}
use Rattle.book.proofs.Counting.{day_positive, not_full, counts_next, counts_none}
use Rattle.book.proofs.Kept.{Kept, Sound, sound, accepted, accepted_head, keep_kept}
use Rattle.book.proofs.Clean.{slot_clean, day_clean, read_clean, agreed_clean}

-- the lists of kept calls have the right lengths
cells_fit_lem : (h : Head) (kept : List Call) → cells_fit h (book_of h kept) ≡ true
unfolding cells_fit slots_fit days_fit reads_fit agreed_fits all_long book_of
cells_fit_lem h kept =
    simp (
      length_up_to,
      eq-eqb (slot_count h) (slot_count h) refl,
      eq-eqb h.days h.days refl,
      eq-eqb (suc h.days) (suc h.days) refl,
    )

counts_fit_lem : (h : Head) (kept : List Call) → counts_fit h (counts_of h kept) ≡ true
unfolding counts_fit all_long counts_of
counts_fit_lem h kept = simp (length_up_to, eq-eqb h.days h.days refl)

pub book_fits_lem : (h : Head) (kept : List Call) → book_fits h (lists_of h kept) ≡ true
unfolding book_fits lists_of
book_fits_lem h kept = rw (cells_fit_lem h kept, counts_fit_lem h kept)

-- against its cell, and for a delivery its day's count, a sound call is what it is against the kept calls
against_slot_lem : (h : Head) (kept : List Call) (slot version value status : ℕ) → head_ok h ≡ true → Kept h kept → slot < slot_count h
    → against_delivery h (book_of h kept).slots (counts_of h kept) slot version value status
    ≡ against_kept kept (delivery slot version value status)
unfolding against_delivery against_slot against_kept book_of counts_of
against_slot_lem h kept slot version value status good ok lt =
    let b = bounded h good in
    let day : slot / slots_per_day h < h.days = day_below h b slot lt in
    simp up_to_at (rw (not_full h (day_positive b) kept slot, slot_clean h kept ok slot))

against_day_lem : (h : Head) (kept : List Call) (day : ℕ) → Kept h kept → day < h.days
    → against_day (get_or (book_of h kept).holidays day 0) ≡ against_kept kept (holiday day)
unfolding against_day against_kept book_of
against_day_lem h kept day ok lt = simp up_to_at (rw (day_clean h kept ok day) (go (named day kept)))
  where
    go : (t : Bool) → cond (eqb (cond t 1 0) 0) stored repeat ≡ cond t repeat stored
    go true = refl
    go false = refl

against_boundary_lem : (h : Head) (kept : List Call) (boundary version reading width : ℕ) → Kept h kept → boundary < suc h.days
    → against_boundary (get_or (book_of h kept).read_versions boundary 0) (read_at (reads_of (book_of h kept)) boundary) version
    (dial_read reading width)
    ≡ against_kept kept (register boundary version reading width)
unfolding against_boundary against_kept book_of
against_boundary_lem h kept boundary version reading width ok lt = simp up_to_at (rw (read_clean h kept ok boundary))

against_agreed_lem : (h : Head) (kept : List Call) (slot version value : ℕ) → Kept h kept → slot < slot_count h
    → against_agreed (get_or (book_of h kept).agreed.versions slot 0) (get_or (book_of h kept).agreed.values slot 0) version value
    ≡ against_kept kept (agreed slot version value)
unfolding against_agreed against_kept book_of
against_agreed_lem h kept slot version value ok lt = simp up_to_at (rw (agreed_clean h kept ok slot))

-- where the lists fit, answers that are equal for a good head and a sound call are equal behind the rules
behind : (h : Head) (c : Call) (fit : Bool) (a b : Answer) → fit ≡ true → (head_ok h ≡ true → Sound h c → a ≡ b)
    → unless refused (input_rules h fit c) a ≡ unless refused (rule OutsideBounds (not (head_ok h)) ∷ argument_rules h c) b
behind h c fit a b e same =
    rw e (unless_same refused (rule OutsideBounds (not (head_ok h)) ∷ argument_rules h c) a b (λ u. same (not-false _ (u 0)) (sound h c u)))

-- the same answer to one call
answer_agrees : (h : Head) (kept : List Call) (c : Call) → Kept h kept → answer h (lists_of h kept) c ≡ plain_answer h kept c
unfolding answer deliver_answer holiday_answer register_answer agree_answer plain_answer cells_fit lists_of
answer_agrees h kept (delivery slot version value status) ok =
    behind h (delivery slot version value status) (slots_fit h (book_of h kept).slots && counts_fit h (counts_of h kept)) _ _
    (rw (passed (cells_fits h (book_of h kept)) (cells_fit_lem h kept) 0, counts_fit_lem h kept))
    (λ good s. against_slot_lem h kept slot version value status good ok s.0)
answer_agrees h kept (holiday day) ok =
    behind h (holiday day) (days_fit h (book_of h kept).holidays) _ _ (passed (cells_fits h (book_of h kept)) (cells_fit_lem h kept) 1)
    (λ good s. against_day_lem h kept day ok s)
answer_agrees h kept (register boundary version reading width) ok =
    behind h (register boundary version reading width) (reads_fit h (reads_of (book_of h kept))) _ _
    (passed (cells_fits h (book_of h kept)) (cells_fit_lem h kept) 2)
    (λ good s. let le = s.0 in against_boundary_lem h kept boundary version reading width ok (omega arith))
answer_agrees h kept (agreed slot version value) ok =
    behind h (agreed slot version value) (agreed_fits h (book_of h kept).agreed) _ _
    (passed (cells_fits h (book_of h kept)) (cells_fit_lem h kept) 3)
    (λ good s. against_agreed_lem h kept slot version value ok s.0)

-- the counts of one more accepted call
counted : (h : Head) (kept : List Call) (c : Call) → head_ok h ≡ true → Sound h c → is_accepted (against_kept kept c) ≡ true
    → counts_of h (c ∷ kept) ≡ counted_in h (against_kept kept c) (lists_of h kept) c
unfolding counted_in lists_of against_kept counts_of delivered_on deliveries
counted h kept (delivery slot version value status) good s ok =
    let b = bounded h good in
    counts_next h kept slot version value status (day_positive b) s.0 (day_below h b slot s.0) s.1 ok
counted h kept (holiday day) good s ok = refl
counted h kept (register boundary version reading width) good s ok = refl
counted h kept (agreed slot version value) good s ok = refl

lists_next : (h : Head) (kept : List Call) (c : Call) → head_ok h ≡ true → Sound h c → is_accepted (against_kept kept c) ≡ true
    → lists_of h (c ∷ kept) ≡ booked h (against_kept kept c) (lists_of h kept) c
unfolding lists_of
lists_next h kept c good s ok = λ t. record { cells = book_next h kept c ok t; counts = counted h kept c good s ok t }

-- the lists that one call leaves are those of the kept calls
after_agrees : (h : Head) (kept : List Call) (c : Call) → Kept h kept → after h (lists_of h kept) c ≡ lists_of h (keep h kept c)
unfolding keep
after_agrees h kept c ok =
    after_filed h (lists_of h kept) c ∙ rw (answer_agrees h kept c ok) (go (is_accepted (plain_answer h kept c)) refl)
  where
    go : (t : Bool) → is_accepted (plain_answer h kept c) ≡ t
        → booked h (plain_answer h kept c) (lists_of h kept) c ≡ lists_of h (cond t (c ∷ kept) kept)
    go true e =
        let found = accepted h kept c e in
        let same = found.0 in
        rw same (sym (lists_next h kept c (accepted_head h kept c e) found.1 (ap is_accepted (sym same) ∙ e)))
    go false e = filed_refused h (plain_answer h kept c) (lists_of h kept) c e

-- nothing is kept of a book that was only opened
opened_cells : (h : Head) → (opened h).cells ≡ book_of h []
unfolding opened book_of deliveries kept_reads agreements named highest_version content_with
opened_cells h = simp (up_to_zero 0)

opened_book : (h : Head) → opened h ≡ lists_of h []
unfolding opened lists_of
opened_book h = λ t. record { cells = opened_cells h t; counts = counts_none h t }

-- a whole list, from any kept calls
answers_from : (h : Head) (kept cs : List Call) → Kept h kept → answers h (lists_of h kept) cs ≡ plain_answers h kept cs
unfolding answers plain_answers
answers_from h kept [] ok = refl
answers_from h kept (c ∷ cs) ok =
    let rest : answers h (after h (lists_of h kept) c) cs ≡ plain_answers h (keep h kept c) cs =
    rw (after_agrees h kept c ok) (answers_from h (keep h kept c) cs (keep_kept h kept c ok)) in
    λ t. answer_agrees h kept c ok t ∷ rest t

lists_from : (h : Head) (kept cs : List Call) → Kept h kept → after_all h (lists_of h kept) cs ≡ lists_of h (kept_of h kept cs)
unfolding after_all kept_of
lists_from h kept [] ok = refl
lists_from h kept (c ∷ cs) ok = rw (after_agrees h kept c ok) (lists_from h (keep h kept c) cs (keep_kept h kept c ok))

-- the answers to every list of calls from an opening are the plain book's
pub answers_agree : (h : Head) (cs : List Call) → answers h (opened h) cs ≡ plain_answers h [] cs
answers_agree h cs = rw (opened_book h) (answers_from h [] cs tt)

-- the lists that every list of calls leaves are those that its kept calls amount to
pub lists_agree : (h : Head) (cs : List Call) → after_all h (opened h) cs ≡ lists_of h (kept_of h [] cs)
lists_agree h cs = rw (opened_book h) (lists_from h [] cs tt)

-- so the cells are the plain book's, and the counts are its numbers of delivered slots (02, W6)
pub cells_agree : (h : Head) (cs : List Call) → (after_all h (opened h) cs).cells ≡ book_of h (kept_of h [] cs)
unfolding lists_of
cells_agree h cs = rw (lists_agree h cs)

pub counts_agree : (h : Head) (cs : List Call) → (after_all h (opened h) cs).counts ≡ counts_of h (kept_of h [] cs)
unfolding lists_of
counts_agree h cs = rw (lists_agree h cs)
