-- The export of a file, and what the call answers (02, W8).
use Rattle.std.specs.Prelude.{Result, Ok, Err, ◌≡◌, ◌<◌}
use Rattle.std.specs.Prelude.{Bool, true, false, not, ◌&&◌, ◌||◌, List, [], ◌∷◌, ◌++◌, ℕ, ◌/◌, leb, eqb, length, get_or, drop}
use Rattle.rules.specs.Numbers.{day_minutes}
use Rattle.base.specs.declared.Refusal.{Refusal}
use Rattle.base.specs.declared.Refusal.TheVariants.{WrongIdentifier, WrongText, ShortBuffer}
use Rattle.base.specs.Lists.{every, all}
use Rattle.file.specs.declared.Figures.{Figures}
use Rattle.file.specs.Reader.{slot_at, figures, read_file}
use Rattle.market.specs.declared.Codes.{Codes}
use Rattle.market.specs.declared.marks.Mark.{Mark}
use Rattle.market.specs.Fields.{Texts, mark_of}
use Rattle.market.specs.Records.{record100, record200, record900, days_of}

-- ---- The export

-- what an export is written from: first day, D, L, and each slot's value, written quality and written method
pub record Content : Type 0 where
  pub first : ℕ
  pub days : ℕ
  pub interval : ℕ
  pub value : ℕ → ℕ
  pub mark : ℕ → Mark

-- our reader's figures decide the content
unfoldable pub content_of : Codes → List ℕ → Content
content_of codes bs = record {
  first = (figures bs).first;
  days = (figures bs).days;
  interval = (figures bs).interval;
  value = λ i. (slot_at bs i).value;
  mark = λ i. mark_of codes (slot_at bs i);
}

-- the records 100, 200, and those of the days
unfoldable pub body_of : Texts → Content → List ℕ
body_of t c =
    record100 t.created t.from t.to
    ++ (record200 t.identifier t.configuration t.register t.suffix t.stream t.serial c.interval t.next_read
    ++ days_of t.reason t.created c.first c.value c.mark (day_minutes / c.interval) c.days)

unfoldable pub export_of : Texts → Content → List ℕ
export_of t c = body_of t c ++ record900

-- ---- Refusals

-- the bytes that an identifier, another text and a creation time have
abbrev pub identifier_byte : ℕ → Bool
identifier_byte b = (leb 48 b && leb b 57) || (leb 65 b && (leb b 90 && (not (eqb b 73) && not (eqb b 79))))

abbrev pub plain_byte : ℕ → Bool
plain_byte b = leb 32 b && (leb b 126 && not (eqb b 44))

abbrev pub digit_byte : ℕ → Bool
digit_byte b = leb 48 b && leb b 57

unfoldable pub all_of : (ℕ → Bool) → List ℕ → Bool
all_of test s = all (λ i. test (get_or s i 0)) 0 (length s)

-- a function of bytes tells such a test
abbrev pub Tells : (ℕ → Bool → Type 0) → (ℕ → Bool) → Type 0
Tells post test = (b : ℕ) (told : Bool) → b < 256 → post b told → told ≡ test b

-- 14: not ten characters of A to Z without I and O, 0 to 9
unfoldable pub identifier_ok : List ℕ → Bool
identifier_ok s = eqb (length s) 10 && all_of identifier_byte s

-- a creation time of 14 digits
unfoldable pub time_ok : List ℕ → Bool
time_ok s = eqb (length s) 14 && all_of digit_byte s

-- no method code over 99
unfoldable pub codes_ok : Codes → Bool
codes_ok c = every (leb c.two 99 ∷ leb c.three 99 ∷ leb c.five 99 ∷ leb c.eighteen 99 ∷ leb c.nineteen 99 ∷ [])

-- 15: a text with a comma or a byte outside 0x20 to 0x7E, a creation time of another form, a method code over 99
abbrev pub supplied_tests : Texts → Codes → List Bool
supplied_tests t c =
    all_of plain_byte t.from ∷ all_of plain_byte t.to
    ∷ all_of plain_byte t.configuration ∷ all_of plain_byte t.register ∷ all_of plain_byte t.suffix
    ∷ all_of plain_byte t.stream ∷ all_of plain_byte t.serial ∷ all_of plain_byte t.next_read
    ∷ all_of plain_byte t.reason ∷ time_ok t.created ∷ codes_ok c
    ∷ []

unfoldable pub supplied_ok : Texts → Codes → Bool
supplied_ok t c = every (supplied_tests t c)

-- ---- The answer

-- each case, in the order 8, 9, 14, 15, 7
abbrev pub export_by : Result Figures Refusal → Bool → Bool → Bool → ℕ → Result ℕ Refusal
export_by (Err r) identifier supplied room long = Err r
export_by (Ok g) false supplied room long = Err WrongIdentifier
export_by (Ok g) true false room long = Err WrongText
export_by (Ok g) true true false long = Err ShortBuffer
export_by (Ok g) true true true long = Ok long

unfoldable pub export_answer : List ℕ → Texts → Codes → List ℕ → Result ℕ Refusal
export_answer bs t codes out =
    let e = export_of t (content_of codes bs) in
    export_by (read_file bs) (identifier_ok t.identifier) (supplied_ok t codes) (leb (length e) (length out)) (length e)

-- the export stands at the start, and bytes after it are unchanged; a refusal changes no byte
abbrev pub out_after : Result ℕ Refusal → List ℕ → List ℕ → List ℕ
out_after (Ok long) e out = e ++ drop (length e) out
out_after (Err r) e out = out

unfoldable pub export_after : List ℕ → Texts → Codes → List ℕ → List ℕ
export_after bs t codes out = out_after (export_answer bs t codes out) (export_of t (content_of codes bs)) out
