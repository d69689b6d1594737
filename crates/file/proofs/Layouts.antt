-- The layouts that the reader knows, and how many F slots go with them.
use mathlib.Core.Path.{◌≡◌, refl}
use mathlib.Core.Bool.{true, not, ◌||◌}
use mathlib.Core.Logic.{⊎_elim}
use Prim.Native.Nat.{ℕ, zero, suc, ◌<◌}
use native.Mathlib.Omega.{arith}
use borrow.Author.Tests.{eqb-true, ne_eqb, lt-ltb}
use lib.Dec.{eqb, ltb}
use Rattle.base.proofs.Logic.{or_parts}
use Rattle.file.specs.Reader.{layout_ok}

-- a layout is a byte
pub layout_lt : (layout : ℕ) → layout_ok layout ≡ true → layout < 256
unfolding layout_ok
layout_lt layout ok =
    ⊎_elim (λ e. omega (arith, eqb-true layout 1 e))
    (λ e. ⊎_elim (λ f. omega (arith, eqb-true layout 2 f)) (λ f. omega (arith, eqb-true layout 3 f))
    (or_parts (eqb layout 2) (eqb layout 3) e))
    (or_parts (eqb layout 1) (eqb layout 2 || eqb layout 3) ok)

-- what the code tests
pub none_zero : (n : ℕ) → eqb n 0 ≡ not (ltb 0 n)
none_zero zero = refl
none_zero (suc n) =
    let more : suc n ≡ 0 → ⊥ = λ e. omega arith in
    rw (ne_eqb (suc n) 0 more, lt-ltb 0 (suc n) (omega arith))
