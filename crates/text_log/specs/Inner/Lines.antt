-- A line found at a place.
use Rattle.std.specs.Prelude.{List, ◌∷◌, ◌≡◌, ℕ, ◌-◌, ◌≤◌, ◌<◌, length, take, drop}
use Rattle.text_log.specs.declared.lines.Cut.{Cut}
use Rattle.text_log.specs.declared.limits.Limits.{Limits}
use Rattle.text_log.specs.declared.line.LogLine.{LogLine}
use Rattle.text_log.specs.Log.{lines, Item, item_in, items}

-- the line that begins at a place, and those after it
pub record LineAt (bytes : List ℕ) (at : ℕ) (r : Cut) : Type 0 where
  pub begun : at ≤ r.end
  pub ended : r.end ≤ length bytes
  pub further : at < r.next
  pub inside : r.next ≤ length bytes
  pub first : lines (drop at bytes) ≡ take (r.end - at) (drop at bytes) ∷ lines (drop r.next bytes)

-- the line that begins at a place is this item, and the others begin at `next`
pub record ItemAt (bytes : List ℕ) (at : ℕ) (x : Item) (next : ℕ) : Type 0 where
  pub further : at < next
  pub inside : next ≤ length bytes
  pub first : items (drop at bytes) ≡ x ∷ items (drop next bytes)

-- it is this line, with some table beside it
pub record FoundAt (bytes : List ℕ) (at : ℕ) (line : LogLine) (next : ℕ) : Type 0 where
  pub limits : Limits
  pub item : ItemAt bytes at (item_in line limits) next
