-- A charger's host tells a reading from a refusal: the codes below 100,000,000 are the readings.
use mathlib.Core.Logic.{◌↔◌}
use mathlib.Core.Path.{◌≡◌, ap}
use Prim.Native.Nat.{ℕ, ◌<◌}
use native.Mathlib.Omega.{arith}
use Rattle.std.specs.Prelude.{Result, Ok, Err}
use Rattle.base.specs.declared.Refusal.{Refusal}
use Rattle.base.specs.Refusals.{number_code}

pub reading_told : (answer : Result ℕ Refusal) (n : ℕ) → n < 100000000 → (number_code answer ≡ n) ↔ (answer ≡ Ok n)
reading_told answer n low = (of answer, ap number_code)
  where
    of : (u : Result ℕ Refusal) → number_code u ≡ n → u ≡ Ok n
    of (Ok m) e = ap Ok e
    of (Err r) e = absurd (omega arith)
