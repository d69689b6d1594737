-- What publishing answers, and what it leaves in the buffer (01, The published file; Numbers of a refusal).
use Rattle.base.specs.declared.Refusal.TheVariants.{OutsideBounds, WrongLength, ShortBuffer, ImpossibleCell}
use Rattle.base.specs.declared.Refusal.{Refusal}
use Rattle.std.specs.Prelude.{not, List, [], ◌∷◌, ◌++◌, ℕ, ◌+◌, ◌*◌, ltb, length, drop, Result, Ok, Err}
use Rattle.base.specs.Refusals.{Rule, answered}
use Rattle.base.specs.Refusals.Rule.{rule}
use Rattle.rules.specs.declared.Head.{Head}
use Rattle.rules.specs.Opening.{Cells, head_ok, first_day}
use Rattle.rules.specs.Spans.{outcomes, spans}
use Rattle.book.specs.Cells.{Book, book_fits, book_ok}
use Rattle.file.specs.Layout.{Content, file_of}

-- what a book publishes: its slots' outcomes and its spans', in layout 3 (02, W10)
unfoldable pub published : Head → Cells → Content
published h b = record {
  layout = 3;
  first = first_day h;
  days = h.days;
  interval = h.interval;
  slots = outcomes h b;
  spans = spans h b;
}

-- 6N + 14M + 32
unfoldable pub file_length : Head → Cells → ℕ
file_length h b = 6 * length (outcomes h b) + 14 * length (spans h b) + 32

-- 11, of all cells and counts, goes before 7
abbrev pub publish_rules : Head → Book → List ℕ → List Rule
publish_rules h b out =
    rule OutsideBounds (not (head_ok h)) ∷ rule WrongLength (not (book_fits h b)) ∷ rule ImpossibleCell (not (book_ok h b))
    ∷ rule ShortBuffer (ltb (length out) (file_length h b.cells)) ∷ []

unfoldable pub publish_answer : Head → Book → List ℕ → Result ℕ Refusal
publish_answer h b out = answered (publish_rules h b out) (file_length h b.cells)

-- the file stands in the first bytes; bytes after it, and all on a refusal, stay
abbrev pub bytes_after : Result ℕ Refusal → Content → List ℕ → List ℕ
bytes_after (Ok n) f out = file_of f ++ drop n out
bytes_after (Err k) f out = out

unfoldable pub publish_after : Head → Book → List ℕ → List ℕ
publish_after h b out = bytes_after (publish_answer h b out) (published h b.cells) out
