-- What a host is given of a log: a number, the figures of the log, or the line that is wrong; and one line's call as numbers.
use Rattle.std.specs.Prelude.{cond, List, [], ◌∷◌, ℕ, eqb, length, Result, Ok, Err}
use Rattle.base.specs.Refusals.{number_of}
use Rattle.book.specs.declared.calls.Call.{Call}
use Rattle.book.specs.declared.calls.Call.TheVariants.{Delivery, Agreed, Holiday, Register}
use Rattle.text_log.specs.declared.line.LogLine.{LogLine}
use Rattle.text_log.specs.declared.line.LogLine.TheVariants.{Passed, Table, Open, Fill, NoCall}
use Rattle.text_log.specs.Line.{entry_of}
use Rattle.play.specs.declared.Log.{Log}
use Rattle.play.specs.declared.NotALog.{NotALog}
use Rattle.play.specs.declared.NotALog.TheVariants.{NoOpening, NotACall, Refused}
use Rattle.play.specs.declared.Unplayed.{Unplayed}
use Rattle.play.specs.declared.Unplayed.TheVariants.{NotALog as no_log, Lengths}
use Rattle.play.specs.Playing.{checked}

-- 104 without an opening, 105 where a line is no call, 13 or 1 where one is refused
abbrev pub why_code : NotALog → ℕ
why_code NoOpening = 104
why_code (NotACall line) = 105
why_code (Refused line k) = number_of k

-- 0 for a log
abbrev pub check_code : Result Log NotALog → ℕ
check_code (Ok found) = 0
check_code (Err why) = why_code why

-- the line that is wrong, or 0
abbrev pub check_line : Result Log NotALog → ℕ
check_line (Ok found) = 0
check_line (Err NoOpening) = 0
check_line (Err (NotACall line)) = line
check_line (Err (Refused line k)) = line

-- the head, the number of lines and that of filling calls; what is no log leaves the figures
abbrev pub log_figures : Result Log NotALog → List ℕ → List ℕ
log_figures (Ok found) held =
    found.head.year ∷ found.head.month ∷ found.head.day ∷ found.head.days ∷ found.head.interval ∷ found.head.limit ∷ found.head.tolerance
    ∷ found.lines ∷ found.calls ∷ []
log_figures (Err why) held = held

-- 2, as for any list of a wrong length, where there are not nine places
unfoldable pub log_code : List ℕ → List ℕ → ℕ
log_code bytes held = cond (eqb (length held) 9) (check_code (checked bytes)) 2

unfoldable pub log_after : List ℕ → List ℕ → List ℕ
log_after bytes held = cond (eqb (length held) 9) (log_figures (checked bytes) held) held

-- playing answers as checking does, or 2
abbrev pub played_code : Result Log Unplayed → ℕ
played_code (Ok found) = 0
played_code (Err (no_log why)) = why_code why
played_code (Err Lengths) = 2

-- ---- One line

-- the call's kind, and its numbers in the order of the log
abbrev pub call_code : Call → ℕ
call_code (Delivery slot version value status) = 110
call_code (Agreed slot version value) = 111
call_code (Holiday day) = 112
call_code (Register boundary version reading width) = 113

abbrev pub call_fields : Call → List ℕ
call_fields (Delivery slot version value status) = slot ∷ version ∷ value ∷ status ∷ 0 ∷ 0 ∷ 0 ∷ []
call_fields (Agreed slot version value) = slot ∷ version ∷ value ∷ 0 ∷ 0 ∷ 0 ∷ 0 ∷ []
call_fields (Holiday day) = day ∷ 0 ∷ 0 ∷ 0 ∷ 0 ∷ 0 ∷ 0 ∷ []
call_fields (Register boundary version reading width) = boundary ∷ version ∷ reading ∷ width ∷ 0 ∷ 0 ∷ 0 ∷ []

abbrev pub line_code : LogLine → ℕ
line_code Passed = 103
line_code Table = 106
line_code (Open o) = 102
line_code (Fill c) = call_code c
line_code NoCall = 105

abbrev pub line_fields : LogLine → List ℕ → List ℕ
line_fields Passed held = 0 ∷ 0 ∷ 0 ∷ 0 ∷ 0 ∷ 0 ∷ 0 ∷ []
line_fields Table held = 0 ∷ 0 ∷ 0 ∷ 0 ∷ 0 ∷ 0 ∷ 0 ∷ []
line_fields (Open o) held = o.year ∷ o.month ∷ o.day ∷ o.days ∷ o.interval ∷ o.kind ∷ o.tolerance ∷ []
line_fields (Fill c) held = call_fields c
line_fields NoCall held = held

-- 2 where there are not seven places
unfoldable pub one_code : List ℕ → List ℕ → ℕ
one_code bytes held = cond (eqb (length held) 7) (line_code (entry_of bytes).line) 2

unfoldable pub one_fields : List ℕ → List ℕ → List ℕ
one_fields bytes held = cond (eqb (length held) 7) (line_fields (entry_of bytes).line held) held
