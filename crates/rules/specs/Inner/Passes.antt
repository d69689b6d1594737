-- What a pass over the slots knows before a slot.
use Rattle.std.specs.Prelude.{List, [], ◌∷◌, ◌++◌, ℕ, zero, suc, Option, Some, None}
use Rattle.rules.specs.declared.Head.{Head}
use Rattle.rules.specs.declared.Span.{Span}
use Rattle.rules.specs.declared.pass.Pass.{Pass}
use Rattle.rules.specs.Opening.{Cells}
use Rattle.rules.specs.Inner.Walks.{walk_at}
use Rattle.rules.specs.Inner.Stretches.{carried_at, begins_at}

-- a pass before slot i
unfoldable pub pass_at : Head → Cells → ℕ → Pass
pass_at h b i = record { walk = walk_at h b.slots b.agreed.versions i; stretch = carried_at h b i }

-- the spans that begin before slot i
abbrev pub list_of : Option Span → List Span
list_of None = []
list_of (Some s) = s ∷ []

unfoldable pub begun_before : Head → Cells → ℕ → List Span
begun_before h b zero = []
begun_before h b (suc i) = begun_before h b i ++ list_of (begins_at h b i)
