-- The slot of a date and a minute, and the date of a day number, as one number for C.
use Rattle.std.specs.Prelude.{cond, ℕ, ◌+◌, ◌*◌, leb, Result, Ok, Err, ok_or}
use Rattle.base.specs.declared.Refusal.{Refusal}
use Rattle.base.specs.declared.Refusal.TheVariants.{OutsideBounds, NoPlace}
use Rattle.base.specs.Refusals.{number_code}
use Rattle.calendar.specs.declared.Date.{Date}
use Rattle.calendar.specs.Calendar.{day_count, day_number, is_date, date_of}
use Rattle.rules.specs.declared.Head.{Head}
use Rattle.rules.specs.Opening.{head_ok}
use Rattle.explain.specs.Naming.{slot_named}

-- 1 for a bad head goes before 3 for a date that is none, or a moment outside the book
unfoldable pub slot_answer : Head → ℕ → ℕ → ℕ → ℕ → Result ℕ Refusal
slot_answer h year month day minute =
    cond (head_ok h)
    (cond (is_date year month day) (ok_or (slot_named h (record { day = day_number year month day; minute = minute })) NoPlace)
    (Err NoPlace))
    (Err OutsideBounds)

-- a slot, or 100,000,000 plus the refusal
abbrev pub slot_code : Head → ℕ → ℕ → ℕ → ℕ → ℕ
slot_code h year month day minute = number_code (slot_answer h year month day minute)

-- a date as eight digits
abbrev pub date_digits : Date → ℕ
date_digits d = d.year * 10000 + d.month * 100 + d.day

-- 3 for no day: the last is 36,524, 2099-12-31
unfoldable pub date_answer : ℕ → Result ℕ Refusal
date_answer day = cond (leb day_count day) (Err NoPlace) (Ok (date_digits (date_of day)))

abbrev pub date_code : ℕ → ℕ
date_code day = number_code (date_answer day)
