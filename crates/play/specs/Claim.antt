-- The claim about two logs: what is proved of every two byte strings that are logs, whatever the lists held before (01, demand 3).
use Rattle.std.specs.Prelude.{true, cond, ◌↔◌, ◌≡◌, ℕ, ltb, length, drop, Ok, Err}
use mathlib.Core.List.{List, [], ◌∷◌, ◌++◌, Memᴰ}
use Rattle.base.specs.declared.Refusal.TheVariants.{ShortBuffer}
use Rattle.rules.specs.declared.Head.{Head}
use Rattle.book.specs.Answers.{answer_code}
use Rattle.book.specs.Arguments.{Call}
use Rattle.book.specs.Cells.{Book}
use Rattle.book.specs.Opening.{opened}
use Rattle.book.specs.Plain.{plain_answer, keep}
use Rattle.publishing.specs.Publishing.{publish_answer, publish_after}
use Rattle.claim.specs.Claim.{plain_of, plain_file, SameOutcomes, AcceptedCall, SameCalls}
use Rattle.text_log.specs.Log.{Item, items, read_log}
use Rattle.text_log.specs.Log.Item.{passed, table, opening, call, neither}
use Rattle.text_log.specs.Log.Reading.{log}
use Rattle.play.specs.Playing.{log_calls, lengths_ok, play_after, answers_after}

-- a byte for each line as the plain book answers it: 102 for the opening, 103 for a line without a call
unfoldable pub plain_codes : Head → List Call → List Item → List ℕ
plain_codes h kept [] = []
plain_codes h kept (passed ∷ xs) = 103 ∷ plain_codes h kept xs
plain_codes h kept (table t ∷ xs) = 103 ∷ plain_codes h kept xs
plain_codes h kept (opening o ∷ xs) = 102 ∷ plain_codes h kept xs
plain_codes h kept (call c ∷ xs) = answer_code (plain_answer h kept c) ∷ plain_codes h (keep h kept c) xs
plain_codes h kept (neither ∷ xs) = 103 ∷ plain_codes h kept xs

-- 01's file of the plain book's outcomes, for the calls of a log
abbrev pub file_by : Head → List ℕ → List ℕ
file_by h bytes = plain_file h (log_calls bytes)

-- x and y are the bytes of logs with the heads h and g; b and c are the lists, and p and q the answers, that `play` was lent
pub record LogClaim (h g : Head) (x y : List ℕ) (b c : Book) (p q : List ℕ) : Type 0 where
  -- 1. each line's answer is the plain book's
  pub answers_plain : answers_after x b p ≡ plain_codes h [] (items x)
  -- 2. publishing what `play` left refuses only for a short buffer, and writes 01's file of the plain book's outcomes
  pub publish_answers : (out : List ℕ)
      → publish_answer h (play_after x b p) out
      ≡ cond (ltb (length out) (length (file_by h x))) (Err ShortBuffer) (Ok (length (file_by h x)))
  pub publish_writes : (out : List ℕ)
      → publish_after h (play_after x b p) out
      ≡ cond (ltb (length out) (length (file_by h x))) out (file_by h x ++ drop (length (file_by h x)) out)
  -- 3. two files are equal exactly when first day, days, interval, all outcomes and all spans are, also under two heads
  pub equal_exactly : (file_by h x ≡ file_by g y) ↔ SameOutcomes h g (plain_of h (log_calls x)) (plain_of g (log_calls y))
  -- 4. under one head equal accepted calls give equal files, in whatever order and however often
  pub order_free : h ≡ g → ((a : Call) → AcceptedCall h (opened h) (log_calls x) a ↔ AcceptedCall g (opened g) (log_calls y) a)
      → file_by h x ≡ file_by g y
  -- 5. under one head, where no line of one log is answered 10, every log with the same calls, in whatever order, gives the same file
  pub any_order : h ≡ g → (Memᴰ 10 (answers_after x b p) → ⊥) → SameCalls (log_calls x) (log_calls y)
      → file_by h x ≡ file_by g y

-- proved by `two_logs` (proofs/TwoLogs.antt)
abbrev pub TwoLogs : Type 0
TwoLogs =
    (h g : Head) (x y : List ℕ) (b c : Book) (p q : List ℕ) → read_log x ≡ log h → read_log y ≡ log g
    → lengths_ok x h b p ≡ true → lengths_ok y g c q ≡ true → LogClaim h g x y b c p q
