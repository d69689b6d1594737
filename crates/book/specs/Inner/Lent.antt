-- Lent lists of the lengths that a delivery asks.
use Rattle.std.specs.Prelude.{List, ◌≡◌, ℕ, ◌<◌, length}
use Rattle.rules.specs.declared.Head.{Head}
use Rattle.rules.specs.Opening.{slot_count, Slots}
use Rattle.rules.specs.Inner.Lent.{Fitted}

-- a slot of lists that fit
pub record Deliverable (h : Head) (s : Slots) (counted : List ℕ) (slot : ℕ) : Type 0 where
  pub fitted : Fitted h s
  pub counts : length counted ≡ h.days
  pub inside : slot < slot_count h
