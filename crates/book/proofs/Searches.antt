-- A search over the places from 0 that goes on to the end: what one more place adds.
use mathlib.Core.Bool.{Bool, ◌||◌}
use mathlib.Core.Path.{◌≡◌, sym, ap, ap₂, ◌∙◌}
use Prim.Native.Nat.{ℕ, ◌+◌}
use native.Mathlib.Nat.{zero-add}
use Rattle.base.specs.Lists.{any}
use Rattle.base.proofs.Sums.{any_more}

pub searched_on : (p : ℕ → Bool) (i : ℕ) (found here : Bool) → found ≡ any p 0 i → here ≡ p i → (found || here) ≡ any p 0 (i + 1)
searched_on p i found here e f =
    ap₂ (λ (x y : Bool). x || y) e (f ∙ ap p (sym (zero-add i))) ∙ sym (any_more p 0 i)
