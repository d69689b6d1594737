-- What the bytes of a log are: its lines, and one of a log with its head, no opening, a line that is no call, a line that is refused.
use Rattle.base.specs.declared.Refusal.TheVariants.{OutsideBounds}
use Rattle.base.specs.declared.Refusal.{Refusal}
use Rattle.std.specs.Prelude.{cond, List, [], ◌∷◌, map, ℕ, suc, eqb, take, Result, Ok, Err}
use Rattle.rules.specs.declared.Head.{Head}
use Rattle.rules.specs.Limits.{load_answer}
use Rattle.rules.specs.Opening.{head_ok}
use Rattle.book.specs.Arguments.{Call, call_meant}
use Rattle.text_log.specs.declared.line.LogLine.{LogLine}
use Rattle.text_log.specs.declared.line.LogLine.TheVariants.{Passed, Table, Open, Fill, NoCall}
use Rattle.text_log.specs.declared.line.Opening.{Opening}
use Rattle.text_log.specs.declared.limits.Limits.{Limits}
use Rattle.text_log.specs.Line.{entry_of}

-- one byte more in front of the first line
unfoldable pub with_byte : ℕ → List (List ℕ) → List (List ℕ)
with_byte b [] = (b ∷ []) ∷ []
with_byte b (line ∷ rest) = (b ∷ line) ∷ rest

-- a line is what LF ends, and the bytes after the last LF where there are any
unfoldable pub lines : List ℕ → List (List ℕ)
lines [] = []
lines (b ∷ bs) = cond (eqb b 10) ([] ∷ lines bs) (with_byte b (lines bs))

-- what a line is: passed over, a table of limits, an opening, a filling call, or none of these
pub data Item : Type 0 where
  passed : Item
  table : List ℕ → Item
  opening : Opening → Item
  call : Call → Item
  neither : Item

-- the limits that stand in a table's first places
abbrev pub table_of : Limits → List ℕ
table_of limits = take limits.count limits.values

unfoldable pub item_in : LogLine → Limits → Item
item_in Passed limits = passed
item_in Table limits = table (table_of limits)
item_in (Open o) limits = opening o
item_in (Fill c) limits = call (call_meant c)
item_in NoCall limits = neither

unfoldable pub item_of : List ℕ → Item
item_of line = item_in (entry_of line).line (entry_of line).limits

-- an item for each line of a log
unfoldable pub items : List ℕ → List Item
items bytes = map item_of (lines bytes)

-- the filling calls among them, in order
unfoldable pub calls_in : List Item → List Call
calls_in [] = []
calls_in (passed ∷ xs) = calls_in xs
calls_in (table t ∷ xs) = calls_in xs
calls_in (opening o ∷ xs) = calls_in xs
calls_in (call c ∷ xs) = c ∷ calls_in xs
calls_in (neither ∷ xs) = calls_in xs

-- what the bytes are: a log with this head; no opening; line n, counted from 1, is no call; line n is refused with k
pub data Reading : Type 0 where
  log : Head → Reading
  no_opening : Reading
  not_a_call : ℕ → Reading
  refused : ℕ → Refusal → Reading

-- after the opening: no second one, and no table; n is the number of the first of these lines
unfoldable pub read_open : Head → ℕ → List Item → Reading
read_open h n [] = log h
read_open h n (passed ∷ xs) = read_open h (suc n) xs
read_open h n (call c ∷ xs) = read_open h (suc n) xs
read_open h n (table t ∷ xs) = not_a_call n
read_open h n (opening o ∷ xs) = not_a_call n
read_open h n (neither ∷ xs) = not_a_call n

-- an opening's kind is a place in the table, and the limit there stands in the head
abbrev pub head_with : Opening → ℕ → Head
head_with o limit = record {
  year = o.year;
  month = o.month;
  day = o.day;
  days = o.days;
  interval = o.interval;
  limit = limit;
  tolerance = o.tolerance;
}

-- without a table the limits are 40,000 and 70,000 (02, W5)
unfoldable pub or_built_in : List ℕ → List ℕ
or_built_in [] = 40000 ∷ 70000 ∷ []
or_built_in (w ∷ ws) = w ∷ ws

-- line n with a table that loads, or is refused with 13
unfoldable pub with_table : ℕ → Result ℕ Refusal → Reading → Reading
with_table n (Ok w) rest = rest
with_table n (Err k) rest = refused n k

-- line n with an opening: 13 or 1 where its kind is no place in the table, 1 where its head is outside the bounds
unfoldable pub with_opening : ℕ → Opening → Result ℕ Refusal → List Item → Reading
with_opening n o (Ok w) xs = cond (head_ok (head_with o w)) (read_open (head_with o w) (suc n) xs) (refused n OutsideBounds)
with_opening n o (Err k) xs = refused n k

-- before the opening: the table so far, which is empty in front of the first, and the number of the first of these lines
unfoldable pub read_closed : List ℕ → ℕ → List Item → Reading
read_closed t n [] = no_opening
read_closed t n (passed ∷ xs) = read_closed t (suc n) xs
read_closed [] n (table u ∷ xs) = with_table n (load_answer u 1) (read_closed u (suc n) xs)
read_closed (w ∷ ws) n (table u ∷ xs) = not_a_call n
read_closed t n (opening o ∷ xs) = with_opening n o (load_answer (or_built_in t) o.kind) xs
read_closed t n (call c ∷ xs) = not_a_call n
read_closed t n (neither ∷ xs) = not_a_call n

-- the first line that is wrong decides
unfoldable pub read_log : List ℕ → Reading
read_log bytes = read_closed [] 1 (items bytes)
