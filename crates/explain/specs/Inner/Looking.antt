-- What a search back from a slot finds.
use Rattle.std.specs.Prelude.{true, false, ◌≡◌, ℕ, ◌-◌, ◌≤◌, ◌<◌}
use Rattle.rules.specs.declared.Head.{Head}
use Rattle.rules.specs.Opening.{Slots}
use Rattle.rules.specs.Tests.{good_at}

-- every slot from `from` to slot i has a cause, and the one before it, if there is one, is good
pub record Since (h : Head) (s : Slots) (i from : ℕ) : Type 0 where
  pub low : from ≤ i
  pub good : (from ≡ 0 → ⊥) → good_at h s (from - 1) ≡ true
  pub causes : (k : ℕ) → from ≤ k → k < i → good_at h s k ≡ false
