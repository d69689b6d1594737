-- A line before the opening, a place that is reached in a log, and what was found there.
use Rattle.base.specs.declared.Refusal.{Refusal}
use Rattle.base.specs.declared.Refusal.TheVariants.{OutsideBounds}
use Rattle.std.specs.Prelude.{cond, List, [], ◌∷◌, ◌≡◌, ℕ, suc, ◌+◌, ◌≤◌, length, drop, Option, Some, None, Result, Ok, Err}
use Rattle.rules.specs.declared.Head.{Head}
use Rattle.rules.specs.Limits.{load_answer}
use Rattle.rules.specs.Opening.{head_ok}
use Rattle.text_log.specs.declared.line.LogLine.{LogLine}
use Rattle.text_log.specs.declared.line.LogLine.TheVariants as line
use Rattle.text_log.specs.declared.line.Opening.{Opening}
use Rattle.text_log.specs.Log.{lines, Item, items, read_log, read_open, head_with, or_built_in}
use Rattle.text_log.specs.Log.Item.{passed, table, opening, call, neither}
use Rattle.text_log.specs.Inner.Lines.{FoundAt}
use Rattle.play.specs.declared.NotALog.{NotALog}
use Rattle.play.specs.declared.NotALog.TheVariants as no_log
use Rattle.play.specs.declared.reading.Opened.{Opened}
use Rattle.play.specs.declared.reading.TestedLine.{TestedLine}
use Rattle.play.specs.declared.reading.Wrong.{Wrong}
use Rattle.play.specs.declared.reading.Wrong.TheVariants.{NotACall, Refused}
use Rattle.play.specs.Playing.{checked, log_calls}

-- what a table, and an opening, that loads or does not, comes to: the opening's head, nothing yet, or what is wrong
unfoldable pub table_step : Result ℕ Refusal → Result (Option Head) Wrong
table_step (Ok w) = Ok None
table_step (Err k) = Err (Refused k)

unfoldable pub head_step : Head → Result (Option Head) Wrong
head_step h = cond (head_ok h) (Ok (Some h)) (Err (Refused OutsideBounds))

unfoldable pub opening_step : Opening → Result ℕ Refusal → Result (Option Head) Wrong
opening_step o (Ok w) = head_step (head_with o w)
opening_step o (Err k) = Err (Refused k)

-- a line before the opening, after the table so far
unfoldable pub step_of : List ℕ → Item → Result (Option Head) Wrong
step_of t passed = Ok None
step_of [] (table u) = table_step (load_answer u 1)
step_of (w ∷ ws) (table u) = Err NotACall
step_of t (opening o) = opening_step o (load_answer (or_built_in t) o.kind)
step_of t (call c) = Err NotACall
step_of t neither = Err NotACall

-- the table after that line
unfoldable pub table_after : List ℕ → Item → List ℕ
table_after t passed = t
table_after t (table u) = u
table_after t (opening o) = t
table_after t (call c) = t
table_after t neither = t

-- what is wrong in line n
abbrev pub in_line : Wrong → ℕ → NotALog
in_line NotACall n = no_log.NotACall n
in_line (Refused k) n = no_log.Refused n k

-- how many calls a line is that can stand after the opening
abbrev pub calls_at : LogLine → Option ℕ
calls_at line.Passed = Some 0
calls_at line.Table = None
calls_at (line.Open o) = None
calls_at (line.Fill c) = Some 1
calls_at line.NoCall = None

-- the line at a place is such a line, and so many calls
pub record PassingAt (bytes : List ℕ) (at : ℕ) (r : TestedLine) : Type 0 where
  pub line : LogLine
  pub found : FoundAt bytes at line r.next
  pub calls : calls_at line ≡ Some r.calls

-- or it is not
pub record OutsideAt (bytes : List ℕ) (at : ℕ) : Type 0 where
  pub line : LogLine
  pub next : ℕ
  pub found : FoundAt bytes at line next
  pub outside : calls_at line ≡ None

abbrev pub TestedAt : List ℕ → ℕ → Option TestedLine → Type 0
TestedAt bytes at (Some r) = PassingAt bytes at r
TestedAt bytes at None = OutsideAt bytes at

-- the lines in front of a place are so many, with so many calls
pub record Reached (bytes : List ℕ) (at n calls : ℕ) : Type 0 where
  pub inside : at ≤ length bytes
  pub few : n ≤ at
  pub fewer : calls ≤ n
  pub line_count : length (lines bytes) ≡ n + length (lines (drop at bytes))
  pub call_count : length (log_calls bytes) ≡ calls + length (log_calls (drop at bytes))

-- the opening was found in the line before the place, or the log is none
abbrev pub OpeningMeant : List ℕ → Result Opened NotALog → Type 0
OpeningMeant bytes (Ok r) =
    Reached bytes r.at r.lines 0 × (read_log bytes ≡ read_open r.head (suc r.lines) (items (drop r.at bytes)))
OpeningMeant bytes (Err why) = Err why ≡ checked bytes
