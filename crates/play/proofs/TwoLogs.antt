-- The claim about two logs, from the claim about whole lists.
use Rattle.base.specs.declared.Refusal.TheVariants.{Conflict}
use mathlib.Core.Bool.{true}
use mathlib.Core.List.Memᴰ
use mathlib.Core.List.{List, [], ◌∷◌, Memᴰ}
use mathlib.Core.Logic.{⊎_elim}
use mathlib.Core.Path.{◌≡◌, refl, ap, ◌∙◌}
use Prim.Native.Nat.{ℕ}
use Rattle.base.proofs.Logic.{and_parts}
use Rattle.rules.specs.declared.Head.{Head}
use Rattle.rules.specs.Opening.{head_ok}
use Rattle.book.specs.Answers.{answer_code}
use Rattle.book.specs.Answers.Answer.{done, refused}
use Rattle.book.specs.Arguments.{Call}
use Rattle.book.specs.Cells.{Book, book_fits}
use Rattle.book.specs.Opening.{opened, open_answer, open_after}
use Rattle.book.specs.Filling.{answer, after, answers, after_all}
use Rattle.book.specs.Plain.{plain_answer, keep, plain_answers}
use Rattle.book.proofs.Agreement.{answers_agree}
use Rattle.claim.specs.Claim.{Claim}
use Rattle.claim.proofs.WholeLists.{claim}
use Rattle.text_log.specs.Log.{Item, items, calls_in, read_log}
use Rattle.text_log.specs.Log.Item.{passed, table, opening, call, neither}
use Rattle.text_log.specs.Log.Reading.{log}
use Rattle.play.specs.Playing.{log_calls, lengths_ok, item_code, after_item, codes, lists_as, play_after, answers_as, answers_after}
use Rattle.play.specs.Claim.{plain_codes, TwoLogs}
use Rattle.play.proofs.Ending.{head_good, after_where_fits}

-- ---- Answers of lines and answers of calls

-- the lines without a call have the same codes on both sides
same_codes : (h : Head) (b : Book) (kept : List Call) (xs : List Item) → answers h b (calls_in xs) ≡ plain_answers h kept (calls_in xs)
    → codes h b xs ≡ plain_codes h kept xs
unfolding calls_in answers plain_answers codes item_code after_item plain_codes
same_codes h b kept [] e = refl
same_codes h b kept (passed ∷ xs) e = ap (λ (l : List ℕ). 103 ∷ l) (same_codes h b kept xs e)
same_codes h b kept (table t ∷ xs) e = ap (λ (l : List ℕ). 103 ∷ l) (same_codes h b kept xs e)
same_codes h b kept (opening o ∷ xs) e = ap (λ (l : List ℕ). 102 ∷ l) (same_codes h b kept xs e)
same_codes h b kept (call c ∷ xs) e =
    let first : answer h b c ≡ plain_answer h kept c = cc in
    let rest : answers h (after h b c) (calls_in xs) ≡ plain_answers h (keep h kept c) (calls_in xs) = cc in
    rw (first, same_codes h (after h b c) (keep h kept c) xs rest)
same_codes h b kept (neither ∷ xs) e = ap (λ (l : List ℕ). 103 ∷ l) (same_codes h b kept xs e)

-- a call that is refused with 10 has a line with 10
conflict_told : (h : Head) (b : Book) (xs : List Item) → Memᴰ (refused Conflict) (answers h b (calls_in xs)) → Memᴰ 10 (codes h b xs)
unfolding calls_in answers codes item_code after_item
conflict_told h b [] m = absurd (Memᴰ.not-nil m)
conflict_told h b (passed ∷ xs) m = Memᴰ.tail (conflict_told h b xs m)
conflict_told h b (table t ∷ xs) m = Memᴰ.tail (conflict_told h b xs m)
conflict_told h b (opening o ∷ xs) m = Memᴰ.tail (conflict_told h b xs m)
conflict_told h b (call c ∷ xs) m =
    ⊎_elim (λ (e : refused Conflict ≡ answer h b c). Memᴰ.head (ap answer_code e))
    (λ rest. Memᴰ.tail (conflict_told h (after h b c) xs rest)) (Memᴰ.cases_cons m)
conflict_told h b (neither ∷ xs) m = Memᴰ.tail (conflict_told h b xs m)

-- ---- A log that was played

module _ (h : Head) (x : List ℕ) (b : Book) (p : List ℕ) (is : read_log x ≡ log h) (long : lengths_ok x h b p ≡ true) where
  fits : book_fits h b ≡ true
  unfolding lengths_ok
  fits = (and_parts (book_fits h b) _ long).0

  good : head_ok h ≡ true
  good = head_good x h is

  opens : open_answer h b ≡ done
  unfolding open_answer
  opens = rw (good, fits)

  new : open_after h b ≡ opened h
  new = after_where_fits h b good ∙ rw fits

  left : play_after x b p ≡ after_all h (open_after h b) (log_calls x)
  unfolding play_after lists_as
  left = rw (is, long, new)

  told : answers_after x b p ≡ codes h (opened h) (items x)
  unfolding answers_after answers_as
  told = rw (is, long)

pub two_logs : TwoLogs
two_logs h g x y b c p q is is' long long' =
    let whole : Claim h g b c (log_calls x) (log_calls y) =
    claim h g b c (log_calls x) (log_calls y) (opens h x b p is long) (opens g y c q is' long') in
    let ours = new h x b p is long in
    let theirs = new g y c q is' long' in
    record {
      answers_plain = told h x b p is long ∙ same_codes h (opened h) [] (items x) (answers_agree h (log_calls x));
      publish_answers = λ out. rw (left h x b p is long) (whole.publish_answers out);
      publish_writes = λ out. rw (left h x b p is long) (whole.publish_writes out);
      equal_exactly = whole.equal_exactly;
      order_free = rw (ours, theirs) at whole.order_free;
      any_order = λ one free same. whole.any_order one
          (λ m. free (rw (told h x b p is long) (conflict_told h (opened h) (items x) (rw ours at m)))) same;
    }
