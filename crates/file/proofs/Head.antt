-- What the head's tests say of L and N.
use mathlib.Core.Path.{◌≡◌}
use mathlib.Core.Bool.{true, ◌||◌}
use mathlib.Core.Logic.{⊎_elim}
use Prim.Native.Nat.{ℕ, ◌*◌, ◌/◌, ◌≤◌, ◌<◌}
use native.Mathlib.Nat.{mul-le-mul}
use native.Mathlib.Omega.{arith}
use borrow.Author.Tests.{leb-true, eqb-true}
use lib.Dec.{eqb}
use Rattle.base.specs.Lists.{every}
use Rattle.base.proofs.Logic.{passed, or_parts}
use Rattle.rules.specs.Opening.{interval_ok}
use Rattle.file.specs.Reader.{head_field_tests}

module _ (first days interval : ℕ) (ok : every (head_field_tests first days interval) ≡ true) where
  -- what holds of 5, 15 and 30 holds of L
  pub interval_is : (P : ℕ → Type 0) → P 5 → P 15 → P 30 → P interval
  unfolding interval_ok
  interval_is P p5 p15 p30 =
      ⊎_elim (λ e. rw (eqb-true interval 5 e) p5)
      (λ e. ⊎_elim (λ f. rw (eqb-true interval 15 f) p15) (λ f. rw (eqb-true interval 30 f) p30)
      (or_parts (eqb interval 15) (eqb interval 30) e))
      (or_parts (eqb interval 5) (eqb interval 15 || eqb interval 30) (passed (head_field_tests first days interval) ok 0))

  pub interval_pos : 0 < interval
  interval_pos = interval_is (λ x. 0 < x) (omega arith) (omega arith) (omega arith)

  -- at most 288 slots a day and 400 days
  pub per_day_le : 1440 / interval ≤ 288
  per_day_le = interval_is (λ x. 1440 / x ≤ 288) (omega arith) (omega arith) (omega arith)

  pub days_le : days ≤ 400
  days_le = leb-true _ _ (passed (head_field_tests first days interval) ok 2)

  pub slots_le : 1440 / interval * days ≤ 115_200
  slots_le = mul-le-mul per_day_le days_le

  -- at least 48 slots a day and one day
  pub slots_ge : 48 ≤ 1440 / interval * days
  slots_ge =
      let day : 48 ≤ 1440 / interval = interval_is (λ x. 48 ≤ 1440 / x) (omega arith) (omega arith) (omega arith) in
      let one : 1 ≤ days = leb-true _ _ (passed (head_field_tests first days interval) ok 1) in
      mul-le-mul day one
