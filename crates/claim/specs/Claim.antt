-- The claim about whole lists (01, demand 3): what is proved of every two lists of calls of the four kinds, each after an accepted opening.
use Rattle.base.specs.declared.Refusal.TheVariants.{ShortBuffer}
use Rattle.base.specs.declared.Refusal.TheVariants.{Conflict}
use Rattle.std.specs.Prelude.{true, cond, ◌↔◌, ◌≡◌, ℕ, ◌<◌, ltb, length, get_or, drop, Ok, Err}
use mathlib.Core.List.{List, [], ◌++◌, Memᴰ}
use Rattle.rules.specs.declared.Head.{Head}
use Rattle.rules.specs.Opening.{Cells, slot_count}
use Rattle.rules.specs.Spans.{outcome_at, no_span, spans}
use Rattle.book.specs.Answers.{is_accepted}
use Rattle.book.specs.Answers.Answer.{done, refused}
use Rattle.book.specs.Arguments.{Call}
use Rattle.book.specs.Cells.{Book}
use Rattle.book.specs.Opening.{opened, open_answer, open_after}
use Rattle.book.specs.Filling.{answers, after_all}
use Rattle.book.specs.Plain.{plain_answers, kept_of, book_of}
use Rattle.file.specs.Layout.{file_of}
use Rattle.publishing.specs.Publishing.{published, publish_answer, publish_after}

-- what the calls leave in the ten lists of an opened book, and the plain book of the same calls
abbrev pub left_by : Head → List Call → Book
left_by h cs = after_all h (opened h) cs

abbrev pub plain_of : Head → List Call → Cells
plain_of h cs = book_of h (kept_of h [] cs)

-- 01's file of the plain book's outcomes
abbrev pub plain_file : Head → List Call → List ℕ
plain_file h cs = file_of (published h (plain_of h cs))

-- first day, days and interval are equal, and the outcomes of two books slot by slot and span by span, with as many spans
pub record SameOutcomes (h g : Head) (b c : Cells) : Type 0 where
  pub year : h.year ≡ g.year
  pub month : h.month ≡ g.month
  pub day : h.day ≡ g.day
  pub days : h.days ≡ g.days
  pub interval : h.interval ≡ g.interval
  pub slots : (i : ℕ) → i < slot_count h → outcome_at h b i ≡ outcome_at g c i
  pub span_count : length (spans h b) ≡ length (spans g c)
  pub each_span : (j : ℕ) → j < length (spans h b) → get_or (spans h b) j no_span ≡ get_or (spans g c) j no_span

-- "Stored, late and repeat are the accepted calls": x stands in the list at a place that answered one of these, from the lists b on
pub record AcceptedCall (h : Head) (b : Book) (cs : List Call) (x : Call) : Type 0 where
  pub place : ℕ
  pub inside : place < length cs
  pub call : get_or cs place x ≡ x
  pub answered : is_accepted (get_or (answers h b cs) place done) ≡ true

-- no call of the list is answered 10
abbrev pub NoConflict : Head → Book → List Call → Type 0
NoConflict h b cs = Memᴰ (refused Conflict) (answers h b cs) → ⊥

-- the same calls stand in both lists, in whatever order and however often
abbrev pub SameCalls : List Call → List Call → Type 0
SameCalls cs ds = (x : Call) → Memᴰ x cs ↔ Memᴰ x ds

-- after h opened the lists b, and g the lists c
pub record Claim (h g : Head) (b c : Book) (cs ds : List Call) : Type 0 where
  -- 1. each call answers what the plain book answers
  pub answers_plain : answers h (open_after h b) cs ≡ plain_answers h [] cs
  -- 2. publishing refuses only for a short buffer, and writes 01's file of the plain book's outcomes
  pub publish_answers : (out : List ℕ)
      → publish_answer h (after_all h (open_after h b) cs) out
      ≡ cond (ltb (length out) (length (plain_file h cs))) (Err ShortBuffer) (Ok (length (plain_file h cs)))
  pub publish_writes : (out : List ℕ)
      → publish_after h (after_all h (open_after h b) cs) out
      ≡ cond (ltb (length out) (length (plain_file h cs))) out (plain_file h cs ++ drop (length (plain_file h cs)) out)
  -- 3. two files are equal exactly when first day, days, interval, all outcomes and all spans are, also under two heads
  pub equal_exactly : (plain_file h cs ≡ plain_file g ds) ↔ SameOutcomes h g (plain_of h cs) (plain_of g ds)
  -- 4. under one head equal accepted calls give equal files, in whatever order and however often
  pub order_free : h ≡ g → ((x : Call) → AcceptedCall h (open_after h b) cs x ↔ AcceptedCall g (open_after g c) ds x)
      → plain_file h cs ≡ plain_file g ds
  -- 5. under one head, where no call of one list is answered 10, every list with the same calls gives the same file
  pub any_order : h ≡ g → NoConflict h (open_after h b) cs → SameCalls cs ds → plain_file h cs ≡ plain_file g ds

-- proved by `claim` (proofs/WholeLists.antt)
abbrev pub WholeLists : Type 0
WholeLists =
    (h g : Head) (b c : Book) (cs ds : List Call) → open_answer h b ≡ done → open_answer g c ≡ done → Claim h g b c cs ds

-- the condition of 5 can't be left out: two lists with the same calls after an accepted opening, and two files; proved by
-- `conflict_matters` (proofs/Conflict.antt)
pub record ConflictMatters : Type 0 where
  pub head : Head
  pub lists : Book
  pub opening : open_answer head lists ≡ done
  pub ours : List Call
  pub theirs : List Call
  pub calls : SameCalls ours theirs
  pub differ : plain_file head ours ≡ plain_file head theirs → ⊥
