-- Which qualities and methods an outcome can have.
use mathlib.Core.Bool.{true, false≢true}
use mathlib.Core.List.{List}
use mathlib.Core.Logic.{⊎_elim}
use mathlib.Core.Path.{◌≡◌}
use Prim.Native.Nat.{ℕ, ◌+◌, ◌≤◌}
use lib.Dec.{eqb, lit≤}
use lib.ListN.{length}
use Rattle.base.proofs.Logic.{either}
use Rattle.rules.specs.declared.Head.{Head}
use Rattle.rules.specs.declared.Outcome.{Outcome}
use Rattle.rules.specs.declared.Quality.TheVariants.{A, S, F, N}
use Rattle.rules.specs.Opening.{Slots, Agreed}
use Rattle.rules.specs.Filling.{references, from_references, filled_at}
use Rattle.rules.specs.Spans.{is_s}
use Rattle.rules.proofs.Fillings.{filled_by}

-- of a slot before its span is scaled
pub data Filled : Outcome → Type 0 where
  delivered : (v : ℕ) → Filled (record { value = v; quality = A; method = 0 })
  agreed : (v : ℕ) → Filled (record { value = v; quality = F; method = 5 })
  outage : Filled (record { value = 0; quality = A; method = 1 })
  linear : (v : ℕ) → Filled (record { value = v; quality = S; method = 2 })
  same_day : (v : ℕ) → Filled (record { value = v; quality = S; method = 3 })
  nothing : Filled (record { value = 0; quality = N; method = 0 })

-- of a slot: an unscaled value is at most 99,999,999
pub data Form : Outcome → Type 0 where
  unscaled : {o : Outcome} → Filled o → o.value ≤ 99_999_999 → Form o
  scaled_linear : (v : ℕ) → Form (record { value = v; quality = S; method = 18 })
  scaled_same_day : (v : ℕ) → Form (record { value = v; quality = S; method = 19 })

from_form : (xs : List ℕ) → Filled (from_references xs)
unfolding from_references
from_form xs = ⊎_elim (λ e. rw e nothing) (λ e. rw e (same_day _)) (either (eqb (length xs) 0))

pub filled_form : (h : Head) (s : Slots) (a : Agreed) (holidays : List ℕ) (i : ℕ) → Filled (filled_at h s a holidays i)
filled_form h s a holidays i =
    filled_by Filled h s a holidays i (λ _. delivered _) (agreed _) outage (λ _. linear _) (from_form (references h s holidays i))

-- scaling turns 2 into 18 and 3 into 19
pub scaled_form : {o : Outcome} → Filled o → is_s o.quality ≡ true → (v : ℕ)
    → Form (record { value = v; quality = S; method = o.method + 16 })
scaled_form (delivered w) e v = absurd (false≢true e)
scaled_form (agreed w) e v = absurd (false≢true e)
scaled_form outage e v = absurd (false≢true e)
scaled_form (linear w) e v = scaled_linear v
scaled_form (same_day w) e v = scaled_same_day v
scaled_form nothing e v = absurd (false≢true e)

pub method_low : {o : Outcome} → Filled o → o.method ≤ 5
method_low (delivered v) = lit≤ tt
method_low (agreed v) = lit≤ tt
method_low outage = lit≤ tt
method_low (linear v) = lit≤ tt
method_low (same_day v) = lit≤ tt
method_low nothing = lit≤ tt
