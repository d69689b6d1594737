-- What playing comes to, by what the bytes are and whether the lengths are right.
use Rattle.base.specs.declared.Refusal.TheVariants.{OutsideBounds, WrongLength}
use Rattle.base.specs.declared.Refusal.{Refusal}
use Rattle.std.specs.Prelude.{Result, Ok, Err}
use Rattle.std.specs.Result.{is_ok}
use mathlib.Core.Bool.{Bool, true, false, not, cond, ◌&&◌}
use mathlib.Core.List.{List, [], ◌∷◌}
use mathlib.Core.Path.{◌≡◌, refl, sym, ◌∙◌}
use Prim.Native.Nat.{ℕ, suc}
use native.Mathlib.Omega.{arith}
use borrow.Author.Tests.{eq-eqb, ne_eqb}
use lib.Dec.{eqb}
use lib.ListN.{length}
use Rattle.base.specs.Refusals.{unless}
use Rattle.base.specs.Refusals.Rule.{rule}
use Rattle.rules.specs.declared.Head.{Head}
use Rattle.rules.specs.Limits.{load_answer}
use Rattle.rules.specs.Opening.{head_ok}
use Rattle.book.specs.Answers.{opened_meant}
use Rattle.book.specs.Answers.Answer.{done, refused}
use Rattle.book.specs.Cells.{Book, book_fits}
use Rattle.book.specs.Opening.{opened, open_answer, opened_in, open_after}
use Rattle.book.specs.Filling.{after_all}
use Rattle.text_log.specs.declared.line.Opening.{Opening}
use Rattle.text_log.specs.Log.{lines, Item, items, Reading, read_open, head_with, or_built_in, with_table, with_opening, read_closed}
use Rattle.text_log.specs.Log.{read_log}
use Rattle.text_log.specs.Log.Item.{passed, table, opening, call, neither}
use Rattle.text_log.specs.Log.Reading.{log as log-, no_opening as no_opening_, not_a_call as not_a_call_, refused as refused-}
use Rattle.play.specs.declared.Log.{Log}
use Rattle.play.specs.declared.NotALog.{NotALog}
use Rattle.play.specs.declared.Unplayed.{Unplayed}
use Rattle.play.specs.declared.Unplayed.TheVariants.{NotALog as unplayed, Lengths}
use Rattle.play.specs.Playing.{log_calls, checked_of, checked, lengths_ok, codes, played_as, play_answer, lists_as, play_after, answers_as}
use Rattle.play.specs.Playing.{answers_after}

never : {A : Type 0} → ◌≡◌ {A = ℕ} 0 1 → A
never z = absurd (omega arith)

-- ---- A log's head is good

after_opening : (h : Head) (n : ℕ) (xs : List Item) (g : Head) → read_open h n xs ≡ log- g → h ≡ g
unfolding read_open
after_opening h n [] g e = cc
after_opening h n (passed ∷ xs) g e = after_opening h (suc n) xs g e
after_opening h n (call c ∷ xs) g e = after_opening h (suc n) xs g e
after_opening h n (table t ∷ xs) g e = never (cc)
after_opening h n (opening o ∷ xs) g e = never (cc)
after_opening h n (neither ∷ xs) g e = never (cc)

module _ (n : ℕ) (g : Head) where
  by_head : (h : Head) (xs : List Item) (good : Bool) → head_ok h ≡ good
      → cond good (read_open h (suc n) xs) (refused- n OutsideBounds) ≡ log- g → head_ok g ≡ true
  by_head h xs true e f = rw (← after_opening h (suc n) xs g f) e
  by_head h xs false e f = never (cc)

  by_opening : (o : Opening) (l : Result ℕ Refusal) (xs : List Item) → with_opening n o l xs ≡ log- g → head_ok g ≡ true
  unfolding with_opening
  by_opening o (Ok w) xs e = by_head (head_with o w) xs (head_ok (head_with o w)) refl e
  by_opening o (Err k) xs e = never (cc)

  by_table : (l : Result ℕ Refusal) (rest : Reading) → with_table n l rest ≡ log- g → rest ≡ log- g
  unfolding with_table
  by_table (Ok w) rest e = e
  by_table (Err k) rest e = never (cc)

before_opening : (t : List ℕ) (n : ℕ) (xs : List Item) (g : Head) → read_closed t n xs ≡ log- g → head_ok g ≡ true
unfolding read_closed
before_opening [] n [] g e = never (cc)
before_opening (w ∷ ws) n [] g e = never (cc)
before_opening [] n (passed ∷ xs) g e = before_opening [] (suc n) xs g e
before_opening (w ∷ ws) n (passed ∷ xs) g e = before_opening (w ∷ ws) (suc n) xs g e
before_opening [] n (table u ∷ xs) g e = before_opening u (suc n) xs g (by_table n g (load_answer u 1) (read_closed u (suc n) xs) e)
before_opening (w ∷ ws) n (table u ∷ xs) g e = never (cc)
before_opening [] n (opening o ∷ xs) g e = by_opening n g o (load_answer (or_built_in []) o.kind) xs e
before_opening (w ∷ ws) n (opening o ∷ xs) g e = by_opening n g o (load_answer (or_built_in (w ∷ ws)) o.kind) xs e
before_opening [] n (call c ∷ xs) g e = never (cc)
before_opening (w ∷ ws) n (call c ∷ xs) g e = never (cc)
before_opening [] n (neither ∷ xs) g e = never (cc)
before_opening (w ∷ ws) n (neither ∷ xs) g e = never (cc)

pub head_good : (bytes : List ℕ) (h : Head) → read_log bytes ≡ log- h → head_ok h ≡ true
unfolding read_log
head_good bytes h e = before_opening [] 1 (items bytes) h e

-- ---- Opening under a good head

module _ (h : Head) (b : Book) (good : head_ok h ≡ true) where
  pub done_where_fits : (r : Result (Unit {0}) Refusal) → opened_meant r ≡ open_answer h b → is_ok r ≡ book_fits h b
  unfolding open_answer
  done_where_fits r e = go r (book_fits h b) (rw good at e)
    where
      go : (r : Result (Unit {0}) Refusal) (t : Bool) → opened_meant r ≡ unless refused (rule WrongLength (not t) ∷ []) done → is_ok r ≡ t
      go (Ok u) true e = refl
      go (Ok u) false e = never (cc)
      go (Err k) true e = never (cc)
      go (Err k) false e = refl

  pub after_where_fits : open_after h b ≡ cond (book_fits h b) (opened h) b
  unfolding open_answer open_after
  after_where_fits = rw good (go (book_fits h b))
    where
      go : (t : Bool) → opened_in (unless refused (rule WrongLength (not t) ∷ []) done) h b ≡ cond t (opened h) b
      go true = refl
      go false = refl

-- ---- What playing answers and leaves

-- what the contract says
pub record Meant (bytes : List ℕ) (b : Book) (answers : List ℕ) (r : Result Log Unplayed) (b' : Book) (answers' : List ℕ) : Type 0 where
  pub answer : r ≡ play_answer bytes b answers
  pub lists : b' ≡ play_after bytes b answers
  pub told : answers' ≡ answers_after bytes b answers

-- a log is found as one
log_of : (bytes : List ℕ) (r : Reading) (found : Log) → Ok found ≡ checked_of bytes r
    → (r ≡ log- found.head) × (found.lines ≡ length (lines bytes))
unfolding checked_of
log_of bytes (log- g) found e = ((cc), (cc))
log_of bytes no_opening_ found e = never (cc)
log_of bytes (not_a_call_ m) found e = never (cc)
log_of bytes (refused- m j) found e = never (cc)

module _ (bytes : List ℕ) (found : Log) (e : Ok found ≡ checked bytes) where
  both : (read_log bytes ≡ log- found.head) × (found.lines ≡ length (lines bytes))
  unfolding checked
  both = log_of bytes (read_log bytes) found e

  found_head : head_ok found.head ≡ true
  found_head = head_good bytes found.head both.0

  pub found_lines : found.lines ≡ length (lines bytes)
  found_lines = both.1

  module _ (b : Book) where
    fits : (r : Result (Unit {0}) Refusal) → opened_meant r ≡ open_answer found.head b → is_ok r ≡ true → book_fits found.head b ≡ true
    fits r f on = sym (done_where_fits found.head b found_head r f) ∙ on

    new : (r : Result (Unit {0}) Refusal) {o : Book} → opened_meant r ≡ open_answer found.head b → is_ok r ≡ true
        → o ≡ open_after found.head b → o ≡ opened found.head
    new r f on first = first ∙ after_where_fits found.head b found_head ∙ rw (fits r f on)

    module _ (answers : List ℕ) where
      refuse : lengths_ok bytes found.head b answers ≡ false → Meant bytes b answers (Err Lengths) b answers
      unfolding play_answer played_as play_after lists_as answers_after answers_as
      refuse f = record { answer = rw (both.0, f); lists = rw (both.0, f); told = rw (both.0, f) }

      -- not a byte for each line
      pub few_answers : (length answers ≡ found.lines → ⊥) → Meant bytes b answers (Err Lengths) b answers
      unfolding lengths_ok
      few_answers other = refuse (fails (book_fits found.head b))
        where
          fails : (t : Bool) → t && eqb (length answers) (length (lines bytes)) ≡ false
          fails true = rw (← both.1) (ne_eqb _ _ other)
          fails false = refl

      -- lists of other lengths
      pub not_opened : (r : Result (Unit {0}) Refusal) {b' : Book} → opened_meant r ≡ open_answer found.head b → is_ok r ≡ false
          → b' ≡ open_after found.head b → Meant bytes b answers (Err Lengths) b' answers
      unfolding lengths_ok
      not_opened r f off left =
          let unfit : book_fits found.head b ≡ false = sym (done_where_fits found.head b found_head r f) ∙ off in
          rw (left ∙ after_where_fits found.head b found_head, unfit) (refuse (rw unfit))

      pub played : (r : Result (Unit {0}) Refusal) {o b' : Book} {answers' : List ℕ} → opened_meant r ≡ open_answer found.head b
          → is_ok r ≡ true → o ≡ open_after found.head b → length answers ≡ found.lines
          → (answers' ≡ codes found.head o (items bytes)) × (b' ≡ after_all found.head o (log_calls bytes))
          → Meant bytes b answers (Ok found) b' answers'
      unfolding lengths_ok play_answer played_as play_after lists_as answers_after answers_as
      played r f on first count made =
          let long : eqb (length answers) (length (lines bytes)) ≡ true = eq-eqb _ _ (count ∙ found_lines) in
          let right : book_fits found.head b ≡ true = fits r f on in
          record {
            answer = rw (both.0, right, long, ← e);
            lists = rw (both.0, right, long) (made.1 ∙ rw (new r f on first));
            told = rw (both.0, right, long) (made.0 ∙ rw (new r f on first));
          }

module _ (bytes : List ℕ) (b : Book) (answers : List ℕ) where
  other_reading : (why : NotALog) (r : Reading) → read_log bytes ≡ r → Err why ≡ checked_of bytes r → Err why ≡ checked bytes
      → Meant bytes b answers (Err (unplayed why)) b answers
  unfolding checked_of play_answer played_as play_after lists_as answers_after answers_as
  other_reading why (log- h) e other same = never (cc)
  other_reading why no_opening_ e other same = record { answer = rw (e, ← same); lists = rw e; told = rw e }
  other_reading why (not_a_call_ n) e other same = record { answer = rw (e, ← same); lists = rw e; told = rw e }
  other_reading why (refused- n k) e other same = record { answer = rw (e, ← same); lists = rw e; told = rw e }

  -- no log
  pub no_log : {why : NotALog} → Err why ≡ checked bytes → Meant bytes b answers (Err (unplayed why)) b answers
  unfolding checked
  no_log {why} e = other_reading why (read_log bytes) refl e e

  pub each : {r : Result Log Unplayed} {b' : Book} {answers' : List ℕ} → Meant bytes b answers r b' answers'
      → (r ≡ play_answer bytes b answers) × (b' ≡ play_after bytes b answers) × (answers' ≡ answers_after bytes b answers)
  each m = (m.answer, m.lists, m.told)
