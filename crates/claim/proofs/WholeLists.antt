-- The claim about whole lists.
use Rattle.base.specs.declared.Refusal.TheVariants.{ShortBuffer}
use Rattle.base.specs.declared.Refusal.TheVariants.{Conflict}
use Rattle.std.specs.Prelude.{Ok, Err}
use mathlib.Core.Bool.{Bool, true, false, cond}
use mathlib.Core.List.{List, [], ◌++◌, Memᴰ}
use mathlib.Core.Logic.{◌↔◌}
use mathlib.Core.Path.{◌≡◌, refl, sym, ap, subst, ◌∙◌}
use Prim.Native.Nat.{ℕ, ◌<◌}
use native.Mathlib.Nat.{zero-add}
use native.Mathlib.Omega.{arith}
use lib.Dec.{ltb}
use lib.ListN.{length, get_or, drop}
use lib.Seq.{ext_get_or}
use borrow.Author.Tests.{not-false}
use Rattle.base.specs.Lists.{up_to}
use Rattle.base.proofs.Lists.{get_d_up_to, up_to_cong}
use Rattle.base.proofs.Logic.{passed}
use Rattle.base.proofs.Refusals.{unless_answered}
use Rattle.calendar.proofs.Dates.{one_date}
use Rattle.rules.specs.declared.Head.{Head}
use Rattle.rules.specs.declared.Outcome.{Outcome}
use Rattle.rules.specs.declared.Span.{Span}
use Rattle.rules.specs.Opening.{Cells, day_tests, head_tests, head_ok, first_day, slots_per_day, slot_count}
use Rattle.rules.specs.Spans.{outcome_at, no_outcome, no_span, outcomes, spans}
use Rattle.book.specs.Arguments.{Call}
use Rattle.book.specs.Answers.{Answer}
use Rattle.book.specs.Answers.Answer.{done, refused}
use Rattle.book.specs.Cells.{Book}
use Rattle.book.specs.Opening.{opened, open_answer, opened_in, open_after, open_rules}
use Rattle.book.specs.Filling.{answers}
use Rattle.book.specs.Plain.{plain_answers, kept_of}
use Rattle.book.proofs.Agreement.{answers_agree, cells_agree}
use Rattle.book.proofs.Order.{order_does_not_matter}
use Rattle.book.proofs.AnyOrder.{any_order}
use Rattle.book.proofs.Soundness.{book_sound}
use Rattle.file.specs.Layout.{Content, file_of}
use Rattle.publishing.specs.Publishing.{published, file_length, bytes_after, publish_answer, publish_after}
use Rattle.publishing.specs.Inner.Publishing.{Sound}
use Rattle.file.proofs.Content.{length_file}
use Rattle.publishing.proofs.Files.{files_equal}
use Rattle.publishing.proofs.EveryFile.{sound_book}
use Rattle.claim.proofs.Last.{answer_last}
use Rattle.claim.proofs.AcceptedCall.{kept_of_lem, accepted_of}
use Rattle.claim.specs.Claim.{left_by, plain_of, plain_file, SameOutcomes, AcceptedCall, NoConflict, SameCalls, Claim, WholeLists}

-- the file's length as publishing computes it
long : (h : Head) (b : Cells) → file_length h b ≡ length (file_of (published h b))
unfolding file_length published
long h b = sym (length_file (published h b))

-- publishing after a list of calls
module _ (h : Head) (good : head_ok h ≡ true) (cs : List Call) (out : List ℕ) where
  answered : publish_answer h (left_by h cs) out
      ≡ cond (ltb (length out) (length (plain_file h cs))) (Err ShortBuffer) (Ok (length (plain_file h cs)))
  answered =
      answer_last h (left_by h cs) out good (book_sound h cs).0 (book_sound h cs).1 ∙ (rw (cells_agree h cs, long h (plain_of h cs)))

  pub wrote : publish_after h (left_by h cs) out
      ≡ cond (ltb (length out) (length (plain_file h cs))) out (plain_file h cs ++ drop (length (plain_file h cs)) out)
  unfolding publish_after
  wrote = rw (answered, cells_agree h cs) (go (ltb (length out) (length (plain_file h cs))))
    where
      go : (t : Bool) → bytes_after (cond t (Err ShortBuffer) (Ok (length (plain_file h cs)))) (published h (plain_of h cs)) out
          ≡ cond t out (plain_file h cs ++ drop (length (plain_file h cs)) out)
      go true = refl
      go false = refl

-- what equal heads and outcomes make equal
same_count : (h g : Head) → h.interval ≡ g.interval → h.days ≡ g.days → slot_count h ≡ slot_count g
unfolding slot_count slots_per_day
same_count h g e f = rw (e, f)

same_date : (h g : Head) → h.year ≡ g.year → h.month ≡ g.month → h.day ≡ g.day → first_day h ≡ first_day g
unfolding first_day
same_date h g y m d = rw (y, m, d)

module _ (h g : Head) (b c : Cells) where
  slot_of : (k : Head) (x : Cells) (i : ℕ) → i < slot_count k → get_or (outcomes k x) i no_outcome ≡ outcome_at k x i
  unfolding outcomes
  slot_of k x i l = rw zero-add at (get_d_up_to (outcome_at k x) no_outcome 0 (slot_count k) i l)

  same_slots : slot_count h ≡ slot_count g → ((i : ℕ) → i < slot_count h → outcome_at h b i ≡ outcome_at g c i) → outcomes h b ≡ outcomes g
      c
  unfolding outcomes
  same_slots n e =
      up_to_cong (outcome_at h b) (outcome_at g c) 0 (slot_count h) (λ i l. e i (omega arith)) ∙ ap (up_to (outcome_at g c) 0) n

  same_content : SameOutcomes h g b c → published h b ≡ published g c
  unfolding published
  same_content s =
      let date = same_date h g s.year s.month s.day in
      let slots = same_slots (same_count h g s.interval s.days) s.slots in
      let all = ext_get_or no_span (spans h b) (spans g c) s.span_count s.each_span in
      λ t. record { layout = 3; first = date t; days = s.days t; interval = s.interval t; slots = slots t; spans = all t }

  -- the first day's number names one date
  date_found : head_ok h ≡ true → head_ok g ≡ true → first_day h ≡ first_day g → (h.year ≡ g.year) × (h.month ≡ g.month) × (h.day ≡ g.day)
  unfolding head_ok first_day
  date_found p q e =
      one_date h.year h.month h.day g.year g.month g.day
      (passed (day_tests h) (passed (head_tests h) p 1) 0) (passed (day_tests g) (passed (head_tests g) q 1) 0) e

  same_outcomes : head_ok h ≡ true → head_ok g ≡ true → published h b ≡ published g c → SameOutcomes h g b c
  unfolding published
  same_outcomes p q e =
      let first : first_day h ≡ first_day g = ap (λ (f : Content). f.first) e in
      let days : h.days ≡ g.days = ap (λ (f : Content). f.days) e in
      let interval : h.interval ≡ g.interval = ap (λ (f : Content). f.interval) e in
      let slots : outcomes h b ≡ outcomes g c = ap (λ (f : Content). f.slots) e in
      let all : spans h b ≡ spans g c = ap (λ (f : Content). f.spans) e in
      let n : slot_count h ≡ slot_count g = same_count h g interval days in
      let date = date_found p q first in
      record {
        year = date.0;
        month = date.1;
        day = date.2;
        days = days;
        interval = interval;
        slots = λ i l. sym (slot_of h b i l) ∙ ap (λ (os : List Outcome). get_or os i no_outcome) slots ∙ slot_of g c i (omega arith);
        span_count = ap length all;
        each_span = λ j l. ap (λ (ss : List Span). get_or ss j no_span) all;
      }

-- publishing does not refuse the plain book
pub sound : (h : Head) (cs : List Call) → head_ok h ≡ true → Sound h (plain_of h cs)
sound h cs good = rw (cells_agree h cs) at (sound_book h (left_by h cs) good (book_sound h cs).0 (book_sound h cs).1)

-- an accepted opening: the head is good, and the lists are the opened ones
opens : (h : Head) (b : Book) → open_answer h b ≡ done → (head_ok h ≡ true) × (open_after h b ≡ opened h)
unfolding open_answer open_after
opens h b e =
    let (_, kept) = unless_answered refused (λ a. a ≡ done) (λ n r. let z : ◌≡◌ {A = ℕ} 0 1 = cc in omega arith) (open_rules h b) done e in
    (not-false _ (kept 0), ap (λ (a : Answer). opened_in a h b) e)

-- equal plain books under one head have equal files
same_file : (h g : Head) (cs ds : List Call) → h ≡ g → plain_of h cs ≡ plain_of h ds → plain_file h cs ≡ plain_file g ds
same_file h g cs ds one same =
    ap (λ (b : Cells). file_of (published h b)) same ∙ ap (λ (k : Head). plain_file k ds) one

module _ (h g : Head) (b c : Book) (cs ds : List Call) (p : open_answer h b ≡ done) (q : open_answer g c ≡ done) where
  first : open_after h b ≡ opened h
  first = (opens h b p).1

  plain : (k : Head) (x : Book) (es : List Call) → open_answer k x ≡ done → answers k (open_after k x) es ≡ plain_answers k [] es
  plain k x es e = rw (opens k x e).1 (answers_agree k es)

  -- 4
  one_set : h ≡ g → ((x : Call) → AcceptedCall h (open_after h b) cs x ↔ AcceptedCall g (open_after g c) ds x) → plain_file h cs ≡
      plain_file g
      ds
  one_set one same =
      let ours = kept_of_lem h (open_after h b) cs (plain h b cs p) in
      let theirs = accepted_of g (open_after g c) ds (plain g c ds q) in
      let kept : kept_of h [] ds ≡ kept_of g [] ds = ap (λ (k : Head). kept_of k [] ds) one in
      same_file h g cs ds one
      (order_does_not_matter h cs ds
      (λ x m. subst (λ (l : List Call). Memᴰ x l) (sym kept)
      (kept_of_lem g (open_after g c) ds (plain g c ds q) x ((same x).0 (accepted_of h (open_after h b) cs (plain h b cs p) x m))))
      (λ x m. ours x ((same x).1 (theirs x (subst (λ (l : List Call). Memᴰ x l) kept m)))))

  -- 5
  any : h ≡ g → NoConflict h (open_after h b) cs → SameCalls cs ds → plain_file h cs ≡ plain_file g ds
  any one free same =
      same_file h g cs ds one
      (any_order h cs ds (λ m. free (subst (λ (l : List Answer). Memᴰ (refused Conflict) l) (sym (plain h b cs p)) m)) (λ x. (same x).0)
      (λ x. (same x).1))

  pub of_two : Claim h g b c cs ds
  of_two =
      let good = (opens h b p).0 in
      let good' = (opens g c q).0 in
      let same = files_equal h g (plain_of h cs) (plain_of g ds) (sound h cs good) (sound g ds good') in
      record {
        answers_plain = plain h b cs p;
        publish_answers = rw first (answered h good cs);
        publish_writes = rw first (wrote h good cs);
        equal_exactly = (
          λ e. same_outcomes h g (plain_of h cs) (plain_of g ds) good good' (same.0 e),
          λ s. same.1 (same_content h g (plain_of h cs) (plain_of g ds) s),
        );
        order_free = one_set;
        any_order = any;
      }

pub claim : WholeLists
claim = of_two
