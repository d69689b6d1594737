-- Opening a book (01, Opening; 02, W1, W6 and W10).
use Rattle.base.specs.declared.Refusal.TheVariants.{OutsideBounds, WrongLength}
use Rattle.std.specs.Prelude.{not, List, [], ◌∷◌, suc, replicate}
use Rattle.base.specs.Refusals.{Rule, unless}
use Rattle.base.specs.Refusals.Rule.{rule}
use Rattle.rules.specs.declared.Head.{Head}
use Rattle.rules.specs.Opening.{head_ok, slot_count}
use Rattle.book.specs.Answers.{Answer}
use Rattle.book.specs.Answers.Answer.{done, stored, late, repeat, refused}
use Rattle.book.specs.Cells.{Book, book_fits}

-- "Opening sets all cells to 0", "clears the two lists" (02, W1), the counts (02, W6) and the widths (02, W10)
unfoldable pub opened : Head → Book
opened h = record {
  cells = record {
    slots = record { values = replicate (slot_count h) 0; versions = replicate (slot_count h) 0; statuses = replicate (slot_count h) 0 };
    holidays = replicate h.days 0;
    readings = replicate (suc h.days) 0;
    read_versions = replicate (suc h.days) 0;
    agreed = record { values = replicate (slot_count h) 0; versions = replicate (slot_count h) 0 };
    widths = replicate (suc h.days) 0;
  };
  counts = replicate h.days 0;
}

-- "Opening answers done": 1 and 2 alone can refuse it
abbrev pub open_rules : Head → Book → List Rule
open_rules h b = rule OutsideBounds (not (head_ok h)) ∷ rule WrongLength (not (book_fits h b)) ∷ []

unfoldable pub open_answer : Head → Book → Answer
open_answer h b = unless refused (open_rules h b) done

-- a refused opening changes nothing
abbrev pub opened_in : Answer → Head → Book → Book
opened_in done h b = opened h
opened_in stored h b = b
opened_in late h b = b
opened_in repeat h b = b
opened_in (refused n) h b = b

unfoldable pub open_after : Head → Book → Book
open_after h b = opened_in (open_answer h b) h b
