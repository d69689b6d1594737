-- What checking and playing a log answer and leave, from what its bytes are.
use Rattle.std.specs.Prelude.{Bool, cond, ◌&&◌, List, [], ◌∷◌, ℕ, eqb, length, Result, Ok, Err}
use Rattle.rules.specs.declared.Head.{Head}
use Rattle.book.specs.Answers.{answer_code}
use Rattle.book.specs.Arguments.{Call}
use Rattle.book.specs.Cells.{Book, book_fits}
use Rattle.book.specs.Opening.{opened}
use Rattle.book.specs.Filling.{answer, after, after_all}
use Rattle.text_log.specs.Log.{lines, Item, items, calls_in, Reading, read_log}
use Rattle.text_log.specs.Log.Item.{passed, table, opening, call, neither}
use Rattle.text_log.specs.Log.Reading.{log, no_opening, not_a_call, refused}
use Rattle.play.specs.declared.Log.{Log}
use Rattle.play.specs.declared.NotALog.{NotALog}
use Rattle.play.specs.declared.NotALog.TheVariants.{NoOpening, NotACall, Refused}
use Rattle.play.specs.declared.Unplayed.{Unplayed}
use Rattle.play.specs.declared.Unplayed.TheVariants.{NotALog as unplayed, Lengths}

-- the filling calls of a log, in order
abbrev pub log_calls : List ℕ → List Call
log_calls bytes = calls_in (items bytes)

-- a log: its head, how many lines it has, and how many filling calls
unfoldable pub checked_of : List ℕ → Reading → Result Log NotALog
checked_of bytes (log h) = Ok (record { head = h; lines = length (lines bytes); calls = length (log_calls bytes) })
checked_of bytes no_opening = Err NoOpening
checked_of bytes (not_a_call n) = Err (NotACall n)
checked_of bytes (refused n k) = Err (Refused n k)

unfoldable pub checked : List ℕ → Result Log NotALog
checked bytes = checked_of bytes (read_log bytes)

-- the ten lists have the lengths of the head, and there is a byte of answers for each line
unfoldable pub lengths_ok : List ℕ → Head → Book → List ℕ → Bool
lengths_ok bytes h b answers = book_fits h b && eqb (length answers) (length (lines bytes))

-- the answer's code of a filling call (0 stored, 100 late, 101 repeat, or a refusal's number), 102 for the opening, 103 for a line
-- without a call
unfoldable pub item_code : Head → Book → Item → ℕ
item_code h b passed = 103
item_code h b (table t) = 103
item_code h b (opening o) = 102
item_code h b (call c) = answer_code (answer h b c)
item_code h b neither = 103

unfoldable pub after_item : Head → Book → Item → Book
after_item h b passed = b
after_item h b (table t) = b
after_item h b (opening o) = b
after_item h b (call c) = after h b c
after_item h b neither = b

-- a byte for each line, each call given the lists as the one before left them
unfoldable pub codes : Head → Book → List Item → List ℕ
codes h b [] = []
codes h b (x ∷ xs) = item_code h b x ∷ codes h (after_item h b x) xs

-- what checking answers, as playing does
abbrev pub as_checked : Result Log NotALog → Result Log Unplayed
as_checked (Ok l) = Ok l
as_checked (Err why) = Err (unplayed why)

-- playing answers as checking does, and 2 for lengths that are wrong
unfoldable pub played_as : List ℕ → Book → List ℕ → Reading → Result Log Unplayed
played_as bytes b answers (log h) = cond (lengths_ok bytes h b answers) (as_checked (checked bytes)) (Err Lengths)
played_as bytes b answers no_opening = as_checked (checked bytes)
played_as bytes b answers (not_a_call n) = as_checked (checked bytes)
played_as bytes b answers (refused n k) = as_checked (checked bytes)

unfoldable pub play_answer : List ℕ → Book → List ℕ → Result Log Unplayed
play_answer bytes b answers = played_as bytes b answers (read_log bytes)

-- the lists after the calls, in order after opening; a refusal leaves them
unfoldable pub lists_as : List ℕ → Book → List ℕ → Reading → Book
lists_as bytes b answers (log h) = cond (lengths_ok bytes h b answers) (after_all h (opened h) (log_calls bytes)) b
lists_as bytes b answers no_opening = b
lists_as bytes b answers (not_a_call n) = b
lists_as bytes b answers (refused n k) = b

unfoldable pub play_after : List ℕ → Book → List ℕ → Book
play_after bytes b answers = lists_as bytes b answers (read_log bytes)

-- the answers; a refusal leaves them
unfoldable pub answers_as : List ℕ → Book → List ℕ → Reading → List ℕ
answers_as bytes b answers (log h) = cond (lengths_ok bytes h b answers) (codes h (opened h) (items bytes)) answers
answers_as bytes b answers no_opening = answers
answers_as bytes b answers (not_a_call n) = answers
answers_as bytes b answers (refused n k) = answers

unfoldable pub answers_after : List ℕ → Book → List ℕ → List ℕ
answers_after bytes b answers = answers_as bytes b answers (read_log bytes)
