-- What the filling calls answer, and what they leave in the lists they are lent (01, The three calls that fill it; 02, W1, W6 and W10).
use Rattle.base.specs.declared.Refusal.TheVariants.{ImpossibleCell}
use Rattle.base.specs.declared.Refusal.TheVariants.{OutsideBounds, WrongLength}
use Rattle.std.specs.Prelude.{Bool, not, cond, ◌&&◌, List, [], ◌∷◌, ℕ, ◌+◌, ◌/◌, leb, eqb, get_or, set}
use Rattle.base.specs.Refusals.{Rule, unless}
use Rattle.base.specs.Refusals.Rule.{rule}
use Rattle.rules.specs.declared.Head.{Head}
use Rattle.rules.specs.Opening.{head_ok, slots_per_day, Slots, Agreed}
use Rattle.book.specs.Answers.{Answer, is_stored, by_version}
use Rattle.book.specs.Answers.Answer.{stored, repeat, refused}
use Rattle.book.specs.Arguments.{Call, argument_rules}
use Rattle.book.specs.Arguments.Call.{delivery, holiday, register, agreed}
use Rattle.book.specs.Cells.{Reads, Book, reads_of, with_slots, with_holidays, with_reads, with_agreed}
use Rattle.book.specs.Cells.{slots_fit, days_fit, reads_fit, agreed_fits, counts_fit, slot_fault, day_fault, read_fault, agreed_fault}
use Rattle.book.specs.Contents.{Measured, DialRead, measured, dial_read, measured_at, read_at, same_measured, same_read}

-- the rules from the input, where the lists that the call is lent fit or do not
abbrev pub input_rules : Head → Bool → Call → List Rule
input_rules h fit c = rule OutsideBounds (not (head_ok h)) ∷ rule WrongLength (not fit) ∷ argument_rules h c

-- a call against its own cell, which stands first: 11 goes before 10
unfoldable pub against_slot : ℕ → Measured → ℕ → Measured → Answer
against_slot old_version old version new =
    cond (slot_fault old_version old.value old.status) (refused ImpossibleCell) (by_version old_version version (same_measured old new))

-- "A holiday is stored the first time, then repeat."
unfoldable pub against_day : ℕ → Answer
against_day cell = cond (day_fault cell) (refused ImpossibleCell) (cond (eqb cell 0) stored repeat)

unfoldable pub against_boundary : ℕ → DialRead → ℕ → DialRead → Answer
against_boundary old_version old version new =
    cond (read_fault old_version old.reading old.width) (refused ImpossibleCell) (by_version old_version version (same_read old new))

-- "by the version rule of a delivery" (02, W1)
unfoldable pub against_agreed : ℕ → ℕ → ℕ → ℕ → Answer
against_agreed old_version old_value version value =
    cond (agreed_fault old_version old_value) (refused ImpossibleCell) (by_version old_version version (eqb old_value value))

-- a stored call writes one place of a list; with any other answer nothing changes
abbrev pub stored_in : Answer → List ℕ → ℕ → ℕ → List ℕ
stored_in a cells i x = cond (is_stored a) (set cells i x) cells

-- "A first delivery gives 11 where the count is n or more" (02, W6): the version in the cell, and the day's count
unfoldable pub is_full : Head → ℕ → ℕ → Bool
is_full h old_version count = eqb old_version 0 && leb (slots_per_day h) count

-- a delivery against its cell and its day's count
unfoldable pub against_delivery : Head → Slots → List ℕ → ℕ → ℕ → ℕ → ℕ → Answer
against_delivery h s counts slot version value status =
    cond (is_full h (get_or s.versions slot 0) (get_or counts (slot / slots_per_day h) 0)) (refused ImpossibleCell)
    (against_slot (get_or s.versions slot 0) (measured_at s slot) version (measured value status))

-- a delivery
unfoldable pub deliver_answer : Head → Slots → List ℕ → ℕ → ℕ → ℕ → ℕ → Answer
deliver_answer h s counts slot version value status =
    unless refused (input_rules h (slots_fit h s && counts_fit h counts) (delivery slot version value status))
    (against_delivery h s counts slot version value status)

-- the slots after a delivery with this answer
abbrev pub slots_with : Answer → Slots → ℕ → ℕ → ℕ → ℕ → Slots
slots_with a s slot version value status = record {
  values = stored_in a s.values slot value;
  versions = stored_in a s.versions slot version;
  statuses = stored_in a s.statuses slot status;
}

-- "the first stored delivery of a slot raises its day's count" (02, W6): versions and counts as they were, the slot and its day
abbrev pub counts_with : Answer → List ℕ → List ℕ → ℕ → ℕ → List ℕ
counts_with a versions counts slot day =
    stored_in a counts day (cond (eqb (get_or versions slot 0) 0) (get_or counts day 0 + 1) (get_or counts day 0))

unfoldable pub deliver_after : Head → Slots → List ℕ → ℕ → ℕ → ℕ → ℕ → Slots
deliver_after h s counts slot version value status =
    slots_with (deliver_answer h s counts slot version value status) s slot version value status

unfoldable pub counts_after : Head → Slots → List ℕ → ℕ → ℕ → ℕ → ℕ → List ℕ
counts_after h s counts slot version value status =
    counts_with (deliver_answer h s counts slot version value status) s.versions counts slot (slot / slots_per_day h)

-- a holiday
unfoldable pub holiday_answer : Head → List ℕ → ℕ → Answer
holiday_answer h holidays day = unless refused (input_rules h (days_fit h holidays) (holiday day)) (against_day (get_or holidays day 0))

unfoldable pub holiday_after : Head → List ℕ → ℕ → List ℕ
holiday_after h holidays day = stored_in (holiday_answer h holidays day) holidays day 1

-- a register read
unfoldable pub register_answer : Head → Reads → ℕ → ℕ → ℕ → ℕ → Answer
register_answer h r boundary version reading width =
    unless refused (input_rules h (reads_fit h r) (register boundary version reading width))
    (against_boundary (get_or r.read_versions boundary 0) (read_at r boundary) version (dial_read reading width))

unfoldable pub register_after : Head → Reads → ℕ → ℕ → ℕ → ℕ → Reads
register_after h r boundary version reading width = record {
  readings = stored_in (register_answer h r boundary version reading width) r.readings boundary reading;
  read_versions = stored_in (register_answer h r boundary version reading width) r.read_versions boundary version;
  widths = stored_in (register_answer h r boundary version reading width) r.widths boundary width;
}

-- an agreed value
unfoldable pub agree_answer : Head → Agreed → ℕ → ℕ → ℕ → Answer
agree_answer h a slot version value =
    unless refused (input_rules h (agreed_fits h a) (agreed slot version value))
    (against_agreed (get_or a.versions slot 0) (get_or a.values slot 0) version value)

unfoldable pub agree_after : Head → Agreed → ℕ → ℕ → ℕ → Agreed
agree_after h a slot version value = record {
  values = stored_in (agree_answer h a slot version value) a.values slot value;
  versions = stored_in (agree_answer h a slot version value) a.versions slot version;
}

-- any of the four, over all lists
unfoldable pub answer : Head → Book → Call → Answer
answer h b (delivery slot version value status) = deliver_answer h b.cells.slots b.counts slot version value status
answer h b (holiday day) = holiday_answer h b.cells.holidays day
answer h b (register boundary version reading width) = register_answer h (reads_of b.cells) boundary version reading width
answer h b (agreed slot version value) = agree_answer h b.cells.agreed slot version value

unfoldable pub after : Head → Book → Call → Book
after h b (delivery slot version value status) = record {
  cells = with_slots b.cells (deliver_after h b.cells.slots b.counts slot version value status);
  counts = counts_after h b.cells.slots b.counts slot version value status;
}
after h b (holiday day) = record { cells = with_holidays b.cells (holiday_after h b.cells.holidays day); counts = b.counts }
after h b (register boundary version reading width) = record {
  cells = with_reads b.cells (register_after h (reads_of b.cells) boundary version reading width);
  counts = b.counts;
}
after h b (agreed slot version value) = record {
  cells = with_agreed b.cells (agree_after h b.cells.agreed slot version value);
  counts = b.counts;
}

-- a list of calls, each given the lists as the call before left them
unfoldable pub answers : Head → Book → List Call → List Answer
answers h b [] = []
answers h b (c ∷ cs) = answer h b c ∷ answers h (after h b c) cs

unfoldable pub after_all : Head → Book → List Call → Book
after_all h b [] = b
after_all h b (c ∷ cs) = after_all h (after h b c) cs
