-- How far one late figure reaches (02, W14): which slots and spans one more stored delivery can move, and that no other moves.
use Rattle.std.specs.Prelude.{List, [], ◌∷◌, ◌++◌, ◌⊎◌, ◌≡◌, false, ℕ, suc, ◌+◌, ◌*◌, ◌/◌, ◌%◌, ◌≤◌, ◌<◌, length, get_or, take, drop, Ok}
use Rattle.calendar.specs.Calendar.{weekday}
use Rattle.rules.specs.declared.Head.{Head}
use Rattle.rules.specs.declared.Span.{Span}
use Rattle.rules.specs.Opening.{Slots, Cells, first_day, slots_per_day, slot_count}
use Rattle.rules.specs.Tests.{good_at}
use Rattle.rules.specs.Spans.{outcome_at, no_span, spans}
use Rattle.book.specs.Answers.Answer.{stored}
use Rattle.book.specs.Arguments.{Call}
use Rattle.book.specs.Arguments.Call.{delivery}
use Rattle.book.specs.Filling.{answer}
use Rattle.file.specs.Layout.{file_of}
use Rattle.publishing.specs.Publishing.{published, publish_answer, publish_after}
use Rattle.claim.specs.Claim.{left_by, plain_of}

-- slot k has a cause
abbrev pub HasCause : Head → Slots → ℕ → Type 0
HasCause h s k = good_at h s k ≡ false

-- the slots from first to last are an unbroken run of slots with a cause
pub record Run (h : Head) (s : Slots) (first last : ℕ) : Type 0 where
  pub ordered : first ≤ last
  pub inside : last < slot_count h
  pub causes : (k : ℕ) → first ≤ k → k ≤ last → HasCause h s k

-- it holds slot i or touches it: ends just before i or begins just after it
abbrev pub HoldsOrTouches : ℕ → ℕ → ℕ → Type 0
HoldsOrTouches first last i = ((first ≤ i) × (i ≤ last)) ⊎ ((suc last ≡ i) ⊎ (first ≡ suc i))

-- slot j lies in such a run
pub record InRunAt (h : Head) (s : Slots) (i j : ℕ) : Type 0 where
  pub first : ℕ
  pub last : ℕ
  pub run : Run h s first last
  pub near : HoldsOrTouches first last i
  pub from : first ≤ j
  pub to : j ≤ last

-- 7, 14, .. up to 364 days
pub record Weeks (days : ℕ) : Type 0 where
  pub later : 1 ≤ days
  pub whole : days % 7 ≡ 0
  pub most : days ≤ 364

-- where slot j's day is a holiday and slot i lies on a Sunday, up to 370 days
pub record FromSunday (h : Head) (holidays : List ℕ) (days i j : ℕ) : Type 0 where
  pub holiday : get_or holidays (j / slots_per_day h) 0 ≡ 0 → ⊥
  pub sunday : weekday (first_day h + i / slots_per_day h) ≡ 0
  pub later : 1 ≤ days
  pub most : days ≤ 370

-- slot j has slot i's position and a cause, and lies so many days after it
pub record DaysLater (h : Head) (s : Slots) (holidays : List ℕ) (i j : ℕ) : Type 0 where
  pub days : ℕ
  pub place : j ≡ i + days * slots_per_day h
  pub cause : HasCause h s j
  pub within : Weeks days ⊎ FromSunday h holidays days i j

-- slot j lies in a span
abbrev pub Holds : Head → Span → ℕ → Type 0
Holds h s j = (s.first * slots_per_day h ≤ j) × (j < s.last * slots_per_day h)

-- b and c are the books before and after one more delivery, which is stored at slot i
module _ (h : Head) (b c : Cells) (i : ℕ) where
  -- 1. "i itself"
  abbrev pub Itself : ℕ → Type 0
  Itself j = j ≡ i

  -- 2. "the unbroken runs of slots with a cause that hold or touch i in either book"
  abbrev pub Beside : ℕ → Type 0
  Beside j = InRunAt h b.slots i j ⊎ InRunAt h c.slots i j

  -- 3. "slots of i's position with a cause, 7, 14, .. up to 364 days later or, on a holiday, up to 370 days later when i lies on a Sunday"
  abbrev pub Later : ℕ → Type 0
  Later j = DaysLater h b.slots b.holidays i j ⊎ DaysLater h c.slots c.holidays i j

  -- a slot of 1 to 3
  abbrev pub Met : ℕ → Type 0
  Met j = Itself j ⊎ (Beside j ⊎ Later j)

  -- 4. "slots of spans that hold one of these": slot j lies in a span that holds such a slot
  pub record SpanMet (j : ℕ) : Type 0 where
    pub span : ℕ
    pub spanned : span < length (spans h b)
    pub holds : Holds h (get_or (spans h b) span no_span) j
    pub slot : ℕ
    pub held : Holds h (get_or (spans h b) span no_span) slot
    pub met : Met slot

  -- how far the delivery reaches
  abbrev pub Reached : ℕ → Type 0
  Reached j = Met j ⊎ SpanMet j

  -- a span that holds no slot of 1 to 3
  abbrev pub Clear : Span → Type 0
  Clear s = (m : ℕ) → Holds h s m → Met m → ⊥

-- the bytes of slot j's record and of span k's in a published file: 6 bytes, 14 bytes
abbrev pub slot_bytes : List ℕ → ℕ → List ℕ
slot_bytes file j = take 6 (drop (6 * j) file)

abbrev pub span_bytes : Head → List ℕ → ℕ → List ℕ
span_bytes h file k = take 14 (drop (6 * slot_count h + 14 * k) file)

-- the records of two files that are not reached have the same bytes
pub record SameRecords (h : Head) (b c : Cells) (i : ℕ) (file later : List ℕ) : Type 0 where
  pub slot_records : (j : ℕ) → j < slot_count h → (Reached h b c i j → ⊥) → slot_bytes file j ≡ slot_bytes later j
  pub span_records : (k : ℕ) → k < length (spans h b) → Clear h b c i (get_or (spans h b) k no_span) → span_bytes h file k ≡ span_bytes h
      later k

-- what does not move
pub record Unmoved (h : Head) (b c : Cells) (i : ℕ) : Type 0 where
  -- the outcome of every slot that is not reached
  pub slots : (j : ℕ) → j < slot_count h → (Reached h b c i j → ⊥) → outcome_at h b j ≡ outcome_at h c j
  -- the spans' boundaries
  pub span_count : length (spans h b) ≡ length (spans h c)
  pub boundaries : (k : ℕ) → k < length (spans h b)
      → ((get_or (spans h b) k no_span).first ≡ (get_or (spans h c) k no_span).first)
      × ((get_or (spans h b) k no_span).last ≡ (get_or (spans h c) k no_span).last)
  -- the outcome of every span that holds no slot of 1 to 3
  pub each_span : (k : ℕ) → k < length (spans h b) → Clear h b c i (get_or (spans h b) k no_span)
      → get_or (spans h b) k no_span ≡ get_or (spans h c) k no_span
  -- and so their records in 01's files
  pub records : SameRecords h b c i (file_of (published h b)) (file_of (published h c))

-- of the plain books of two lists of calls, and of what publishing leaves in any two buffers with room
pub record BeforeAndAfter (h : Head) (calls more : List Call) (i : ℕ) : Type 0 where
  pub plain : Unmoved h (plain_of h calls) (plain_of h more) i
  pub written : (out later : List ℕ) (n m : ℕ)
      → publish_answer h (left_by h calls) out ≡ Ok n → publish_answer h (left_by h more) later ≡ Ok m
      → SameRecords h (plain_of h calls) (plain_of h more) i (publish_after h (left_by h calls) out)
      (publish_after h (left_by h more) later)

-- for every list of calls after an opening and one more delivery that is stored at slot i
abbrev pub Reach : Type 0
Reach =
    (h : Head) (calls : List Call) (i version value status : ℕ)
    → answer h (left_by h calls) (delivery i version value status) ≡ stored
    → BeforeAndAfter h calls (calls ++ (delivery i version value status ∷ [])) i
