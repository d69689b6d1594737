-- The line that the program writes (01, The published file: 'A program reads a file').
use Rattle.std.specs.Prelude.{Result, Ok, Err}
use Rattle.std.specs.Prelude.{cond, List, [], ◌∷◌, ◌++◌, ◌≡◌, ℕ, zero, suc, ◌+◌, ◌/◌, ◌%◌, ◌≤◌, leb, ltb, length, take, drop}
use Rattle.base.specs.declared.Refusal.{Refusal}
use Rattle.base.specs.declared.Refusal.TheVariants.{ShortBuffer}
use Rattle.base.specs.Refusals.{number_of}
use Rattle.base.specs.Text.{ascii}
use Rattle.calendar.specs.declared.Date.{Date}
use Rattle.calendar.specs.Calendar.{date_of}
use Rattle.file.specs.declared.Figures.{Figures}
use Rattle.file.specs.Reader.{read_file}

-- the last k decimal digits of n in ASCII, highest first
unfoldable pub digits : ℕ → ℕ → List ℕ
digits zero n = []
digits (suc k) n = digits k (n / 10) ++ ((48 + n % 10) ∷ [])

-- how many digits n has, where k + 1 are enough
unfoldable pub places : ℕ → ℕ → ℕ
places zero n = 1
places (suc k) n = cond (ltb n 10) 1 (suc (places k (n / 10)))

-- n with no leading zero; a number of 64 bits has at most 20 digits
unfoldable pub decimal : ℕ → List ℕ
decimal n = digits (places 19 n) n

-- year-month-day
unfoldable pub date_text : Date → List ℕ
date_text d = digits 4 d.year ++ ascii "-" ++ digits 2 d.month ++ ascii "-" ++ digits 2 d.day

-- a space and a number
unfoldable pub field : ℕ → List ℕ
field n = ascii " " ++ decimal n

-- first day, D, L, the three counts, the sum
abbrev pub head_text : Figures → List ℕ
head_text g = date_text (date_of g.first) ++ field g.days ++ field g.interval

abbrev pub counts_text : Figures → List ℕ
counts_text g = field g.actual ++ field g.substituted ++ field g.none

unfoldable pub figures_text : Figures → List ℕ
figures_text g = head_text g ++ counts_text g ++ field g.sum

abbrev pub refused : List ℕ
refused = ascii "refused"

abbrev pub newline : List ℕ
newline = ascii "\n"

-- each case of the reader's answer: the figures, or the refusal's number
unfoldable pub answer_text : Result Figures Refusal → List ℕ
answer_text (Ok g) = figures_text g
answer_text (Err r) = refused ++ field (number_of r)

-- a file of at most 65,536 bytes
unfoldable pub line : List ℕ → List ℕ
line bs = cond (leb (length bs) 65_536) (answer_text (read_file bs)) (ascii "too long") ++ newline

-- what a call leaves in a buffer: a text in the first r bytes; the bytes after it stay
pub record AtStart (before after : List ℕ) (r : ℕ) (text : List ℕ) : Type 0 where
  pub inside : r ≤ length after
  pub has : take r after ≡ text
  pub stay : drop r after ≡ drop r before

-- the line of a file of any length, without a line end: its length, and 7 for a shorter buffer
unfoldable pub figures_answer : Figures → List ℕ → Result ℕ Refusal
figures_answer g out =
    cond (ltb (length out) (length (figures_text g))) (Err ShortBuffer) (Ok (length (figures_text g)))

unfoldable pub figures_after : Figures → List ℕ → List ℕ
figures_after g out =
    cond (ltb (length out) (length (figures_text g))) out (figures_text g ++ drop (length (figures_text g)) out)

-- the reader's refusals go first, and a refusal changes no byte
abbrev pub lined_as : Result Figures Refusal → List ℕ → Result ℕ Refusal
lined_as (Ok g) out = figures_answer g out
lined_as (Err r) out = Err r

abbrev pub left_as : Result Figures Refusal → List ℕ → List ℕ
left_as (Ok g) out = figures_after g out
left_as (Err r) out = out

unfoldable pub line_answer : List ℕ → List ℕ → Result ℕ Refusal
line_answer bs out = lined_as (read_file bs) out

unfoldable pub line_after : List ℕ → List ℕ → List ℕ
line_after bs out = left_as (read_file bs) out
