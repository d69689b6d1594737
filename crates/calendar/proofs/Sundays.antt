-- `to_sunday` leads to the nearest Sunday strictly before a day (02, W3).
use mathlib.Core.Logic.{⊎_elim}
use mathlib.Core.Path.{◌≡◌}
use Prim.Native.Nat.{ℕ, ◌+◌, ◌-◌, ◌≤◌, ◌<◌}
use native.Mathlib.Omega.{arith}
use borrow.Author.Tests.{eqb-true, eqb-false}
use lib.Dec.{eqb}
use Rattle.base.proofs.Logic.{either}
use Rattle.calendar.specs.Calendar.{weekday, to_sunday}

pub one_to_seven : (n : ℕ) → (1 ≤ to_sunday n) × (to_sunday n ≤ 7)
unfolding to_sunday
one_to_seven n =
    ⊎_elim (λ e. rw e (omega arith, omega arith)) (λ e. rw e (omega (arith, eqb-false), omega arith)) (either (eqb (weekday n) 0))

pub on_a_sunday : (n : ℕ) → to_sunday n ≤ n → weekday (n - to_sunday n) ≡ 0
unfolding to_sunday
on_a_sunday n = ⊎_elim (λ e. rw e (λ l. omega (arith, eqb-true))) (λ e. rw e (λ l. omega arith)) (either (eqb (weekday n) 0))

-- no Sunday before the day is nearer
pub nearest : (n m : ℕ) → m < n → weekday m ≡ 0 → m + to_sunday n ≤ n
unfolding to_sunday
nearest n m l z = ⊎_elim (λ e. rw e (omega (arith, eqb-true))) (λ e. rw e (omega arith)) (either (eqb (weekday n) 0))
