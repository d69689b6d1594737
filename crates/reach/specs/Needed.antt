-- No clause of how far one late figure reaches can be left out: for each a list of calls and one more delivery, after which a
-- slot moves that no other clause holds.
use Rattle.std.specs.Prelude.{List, [], ◌∷◌, ◌++◌, ◌⊎◌, ◌≡◌, ℕ, ◌<◌}
use Rattle.rules.specs.declared.Head.{Head}
use Rattle.rules.specs.Opening.{Slots, Cells, slot_count}
use Rattle.rules.specs.Spans.{outcome_at}
use Rattle.book.specs.Answers.Answer.{stored}
use Rattle.book.specs.Arguments.{Call}
use Rattle.book.specs.Arguments.Call.{delivery}
use Rattle.book.specs.Filling.{answer}
use Rattle.claim.specs.Claim.{left_by, plain_of}
use Rattle.reach.specs.Reach.{DaysLater, Itself, Beside, Later, Met, SpanMet}

-- a list of calls, one more delivery, and a slot to look at
pub record Late : Type 0 where
  pub head : Head
  pub calls : List Call
  pub slot : ℕ
  pub version : ℕ
  pub value : ℕ
  pub status : ℕ
  pub looked : ℕ

-- the delivery, and the books before and after it
abbrev pub figure : Late → Call
figure l = delivery l.slot l.version l.value l.status

abbrev pub book_before : Late → Cells
book_before l = plain_of l.head l.calls

abbrev pub book_after : Late → Cells
book_after l = plain_of l.head (l.calls ++ (figure l ∷ []))

-- the delivery is stored, and the slot's outcome moves
pub record Moves (l : Late) : Type 0 where
  pub answered : answer l.head (left_by l.head l.calls) (figure l) ≡ stored
  pub inside : l.looked < slot_count l.head
  pub differs : outcome_at l.head (book_before l) l.looked ≡ outcome_at l.head (book_after l) l.looked → ⊥

-- a clause of the slot
abbrev pub Of : (Head → Cells → Cells → ℕ → ℕ → Type 0) → Late → Type 0
Of clause l = clause l.head (book_before l) (book_after l) l.slot l.looked

-- where it moves, only this clause holds it
abbrev pub OnlyItself : Late → Type 0
OnlyItself l = (Of Beside l ⊎ (Of Later l ⊎ Of SpanMet l)) → ⊥

abbrev pub OnlyBeside : Late → Type 0
OnlyBeside l = (Of Itself l ⊎ (Of Later l ⊎ Of SpanMet l)) → ⊥

-- clause 3, by so many days and no other number
pub record OnlyLater (days : ℕ) (l : Late) : Type 0 where
  pub others : (Of Itself l ⊎ (Of Beside l ⊎ Of SpanMet l)) → ⊥
  pub exact : (s : Slots) (holidays : List ℕ) (x : DaysLater l.head s holidays l.slot l.looked) → x.days ≡ days

abbrev pub OnlySpan : Late → Type 0
OnlySpan l = Of Met l → ⊥

pub record Needed : Type 0 where
  pub first : (l : Late) × Moves l × OnlyItself l
  pub second : (l : Late) × Moves l × OnlyBeside l
  pub third : (l : Late) × Moves l × OnlyLater 364 l
  pub holiday : (l : Late) × Moves l × OnlyLater 370 l
  pub fourth : (l : Late) × Moves l × OnlySpan l
