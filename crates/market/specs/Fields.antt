-- The fields of an export (02, W8), in the form of AEMO's Meter Data File Format Specification NEM12.
use Rattle.std.specs.Prelude.{Option, None, Some}
use Rattle.std.specs.Prelude.{Bool, true, false, cond, not, ◌&&◌, ◌||◌, List, [], ◌∷◌, ◌++◌, ℕ, zero, suc, ◌+◌, ◌/◌, eqb}
use Rattle.base.specs.Lists.{all}
use Rattle.base.specs.Text.{ascii}
use Rattle.calendar.specs.Calendar.{date_of}
use Rattle.rules.specs.declared.Quality.TheVariants.{S, F}
use Rattle.file.specs.declared.slots.SlotRecord.{SlotRecord}
use Rattle.file.specs.Layout.{letter}
use Rattle.line.specs.Line.{digits, decimal}
use Rattle.market.specs.declared.Codes.{Codes}
use Rattle.market.specs.declared.Texts.{Texts as Slices}
use Rattle.market.specs.declared.marks.Mark.{Mark}

-- what the caller supplies: the identifier, the other header texts in the order of the records, the reason code, the creation time
pub record Texts : Type 0 where
  pub identifier : List ℕ
  pub from : List ℕ
  pub to : List ℕ
  pub configuration : List ℕ
  pub register : List ℕ
  pub suffix : List ℕ
  pub stream : List ℕ
  pub serial : List ℕ
  pub next_read : List ℕ
  pub reason : List ℕ
  pub created : List ℕ

abbrev pub texts : List ℕ → List ℕ → List ℕ → List ℕ → List ℕ → List ℕ → List ℕ → List ℕ → List ℕ → List ℕ → List ℕ → Texts
texts identifier from to configuration register suffix stream serial next_read reason created = record {
  identifier = identifier;
  from = from;
  to = to;
  configuration = configuration;
  register = register;
  suffix = suffix;
  stream = stream;
  serial = serial;
  next_read = next_read;
  reason = reason;
  created = created;
}

-- lent, as the contracts name them
abbrev pub lent_texts : List ℕ → List ℕ → List ℕ → List ℕ → List ℕ → List ℕ → List ℕ
    → List ℕ → List ℕ → List ℕ → List ℕ → Texts
lent_texts identifier from to configuration register suffix stream serial next_read reason created =
    texts identifier from to configuration register suffix stream serial next_read
    reason created

-- the same of the struct that lends them
abbrev pub lent : Slices → Texts
lent t = record {
  identifier = t.identifier.now;
  from = t.from.now;
  to = t.to.now;
  configuration = t.configuration.now;
  register = t.register.now;
  suffix = t.suffix.now;
  stream = t.stream.now;
  serial = t.serial.now;
  next_read = t.next_read.now;
  reason = t.reason.now;
  created = t.created.now;
}

-- ---- Fields and records

-- each field behind a record's first is a comma and a text
abbrev pub field : List ℕ → List ℕ
field s = ascii "," ++ s

-- such fields, and the record's end, 0x0D 0x0A
unfoldable pub fields : List (List ℕ) → List ℕ
fields [] = ascii "\r\n"
fields (s ∷ ss) = field s ++ fields ss

-- what f gives at the k places from a, one behind another
unfoldable pub joined : (ℕ → List ℕ) → ℕ → ℕ → List ℕ
joined f a zero = []
joined f a (suc k) = joined f a k ++ f (a + k)

-- ---- Numbers

-- a value in kWh with three decimals; no leading zero but that of 0.100
unfoldable pub kwh : ℕ → List ℕ
kwh v = decimal (v / 1000) ++ (ascii "." ++ digits 3 v)

-- a day's date: YYYYMMDD
unfoldable pub date_field : ℕ → List ℕ
date_field day = digits 4 (date_of day).year ++ (digits 2 (date_of day).month ++ digits 2 (date_of day).day)

-- ---- Quality and method

-- S and F are written with method and reason code, A, N and V with neither
abbrev pub has_code : ℕ → Bool
has_code l = eqb l (letter S) || eqb l (letter F)

-- the caller's code for each of the methods 2, 3, 5, 18 and 19
unfoldable pub code_for : Codes → ℕ → ℕ
code_for c method =
    cond (eqb method 2) c.two
    (cond (eqb method 3) c.three
    (cond (eqb method 5) c.five
    (cond (eqb method 18) c.eighteen c.nineteen)))

-- a slot's written quality is its letter, its written method the caller's code for S and F and none for A and N
unfoldable pub mark_of : Codes → SlotRecord → Mark
mark_of c r = record { letter = r.letter; code = cond (has_code r.letter) (Some (code_for c r.method)) None }

-- V (86) in a 300 says that the quality varies
abbrev pub varies : Mark
varies = record { letter = 86; code = None }

-- one letter, and behind it a two-digit method for S and F
abbrev pub method_of : Option ℕ → List ℕ
method_of None = []
method_of (Some code) = digits 2 code

abbrev pub quality : Mark → List ℕ
quality m = m.letter ∷ method_of m.code

abbrev pub reason_for : Option ℕ → List ℕ → List ℕ
reason_for None reason = []
reason_for (Some code) reason = reason

-- QualityMethod, ReasonCode, ReasonDescription
unfoldable pub marked : Mark → List ℕ → List ℕ
marked m reason = field (quality m) ++ (field (reason_for m.code reason) ++ field [])

-- ---- A day's slots: n from slot a, with these written qualities and methods

abbrev pub same_code : Option ℕ → Option ℕ → Bool
same_code None None = true
same_code None (Some b) = false
same_code (Some a) None = false
same_code (Some a) (Some b) = eqb a b

-- alike in both
abbrev pub alike : Mark → Mark → Bool
alike p q = eqb p.letter q.letter && same_code p.code q.code

module _ (mark : ℕ → Mark) (a n : ℕ) where
  -- all slots are alike
  unfoldable pub one_mark : Bool
  one_mark = all (λ j. alike (mark a) (mark (a + j))) 0 n

  -- the longest run that holds slot j ends with it: it is the day's last, or the next is not alike
  unfoldable pub ends_run : ℕ → Bool
  ends_run j = eqb (j + 1) n || not (alike (mark (a + j)) (mark (a + (j + 1))))

  -- the first slot of that run
  unfoldable pub start_of : ℕ → ℕ
  start_of zero = 0
  start_of (suc j) = cond (ends_run j) (suc j) (start_of j)

-- a day whose slots are alike has its quality in the 300, any other V
abbrev pub day_mark : Bool → Mark → Mark
day_mark true m = m
day_mark false m = varies
