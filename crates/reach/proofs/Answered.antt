-- A call after a list of calls answers what the plain book answers, and so a stored delivery is found among the kept calls.
use mathlib.Core.Bool.{true, false≢true}
use mathlib.Core.List.{List, [], ◌∷◌, ◌++◌}
use mathlib.Core.Path.{◌≡◌, refl, sym, ap, ◌∙◌}
use Prim.Native.Nat.{ℕ, ◌<◌}
use lib.ListN.{length, get_or}
use lib.Seq.{get_or-append_seam}
use Rattle.rules.specs.declared.Head.{Head}
use Rattle.rules.specs.declared.Outcome.{Outcome}
use Rattle.rules.specs.Opening.{slot_count}
use Rattle.rules.specs.Spans.{outcome_at}
use Rattle.book.specs.Answers.{Answer, is_stored}
use Rattle.book.specs.Answers.Answer.{done, stored, late, repeat, refused}
use Rattle.book.specs.Arguments.{Call}
use Rattle.book.specs.Cells.{Book}
use Rattle.book.specs.Opening.{opened}
use Rattle.book.specs.Filling.{answer, after as after_call, answers, after_all}
use Rattle.book.specs.Plain.{plain_answer, plain_answers, keep, kept_of}
use Rattle.book.proofs.Agreement.{answers_agree}
use Rattle.claim.specs.Claim.{left_by}
use Rattle.reach.specs.Needed.{Late, book_before, book_after, figure, Moves}

-- the last of a list of answers is the plain book's
answers_last : (h : Head) (b : Book) (cs : List Call) (c : Call)
    → answers h b (cs ++ (c ∷ [])) ≡ answers h b cs ++ (answer h (after_all h b cs) c ∷ [])
unfolding answers after_all
answers_last h b [] c = refl
answers_last h b (d ∷ cs) c = ap {B = List Answer} (λ l. answer h b d ∷ l) (answers_last h (after_call h b d) cs c)

plain_last : (h : Head) (kept cs : List Call) (c : Call)
    → plain_answers h kept (cs ++ (c ∷ [])) ≡ plain_answers h kept cs ++ (plain_answer h (kept_of h kept cs) c ∷ [])
unfolding plain_answers kept_of
plain_last h kept [] c = refl
plain_last h kept (d ∷ cs) c = ap {B = List Answer} (λ l. plain_answer h kept d ∷ l) (plain_last h (keep h kept d) cs c)

pub answer_plain : (h : Head) (cs : List Call) (c : Call) → answer h (left_by h cs) c ≡ plain_answer h (kept_of h [] cs) c
answer_plain h cs c =
    let same : answers h (opened h) cs ++ (answer h (left_by h cs) c ∷ [])
    ≡ plain_answers h [] cs ++ (plain_answer h (kept_of h [] cs) c ∷ []) =
    sym (answers_last h (opened h) cs c) ∙ answers_agree h (cs ++ (c ∷ [])) ∙ plain_last h [] cs c in
    sym (get_or-append_seam (answers h (opened h) cs) (answer h (left_by h cs) c) [] done)
    ∙ ap (λ (l : List Answer). get_or l (length (answers h (opened h) cs)) done) same
    ∙ rw (answers_agree h cs) (get_or-append_seam (plain_answers h [] cs) (plain_answer h (kept_of h [] cs) c) [] done)

stored_is : (a : Answer) → is_stored a ≡ true → a ≡ stored
stored_is done e = absurd (false≢true e)
stored_is stored e = refl
stored_is late e = absurd (false≢true e)
stored_is repeat e = absurd (false≢true e)
stored_is (refused n) e = absurd (false≢true e)

-- a delivery that the plain book stores, and a figure of a slot's outcome that it changes
pub moves_by : (l : Late) (figure_of : Outcome → ℕ) (x y : ℕ)
    → is_stored (plain_answer l.head (kept_of l.head [] l.calls) (figure l)) ≡ true → l.looked < slot_count l.head
    → figure_of (outcome_at l.head (book_before l) l.looked) ≡ x → figure_of (outcome_at l.head (book_after l) l.looked) ≡ y
    → (x ≡ y → ⊥)
    → Moves l
moves_by l figure_of x y s inside p q differ = record {
  answered = answer_plain l.head l.calls (figure l) ∙ stored_is _ s;
  inside = inside;
  differs = λ e. differ (sym p ∙ ap figure_of e ∙ q);
}
