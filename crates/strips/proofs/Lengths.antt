-- A table of a whole number of days: the code's tests of its length.
use mathlib.Core.Bool.{true, false, ◌&&◌}
use mathlib.Core.Logic.{⊎_elim}
use mathlib.Core.Path.{◌≡◌, sym, ◌∙◌}
use Prim.Native.Nat.{ℕ, ◌+◌, ◌*◌, ◌/◌, ◌%◌, ◌≤◌, ◌<◌}
use native.Mathlib.Nat.{add-zero, mul-one, mul_assoc, mul-mod_right, mul-le-mul_left, div-add-mod, le-div_iff_mul-le, div-lt_iff_lt-mul}
use native.Mathlib.Omega.{arith}
use borrow.Author.Tests.{eq-eqb, ne_eqb, eqb-true, eqb-false, leb-true, leb-false}
use lib.Dec.{eqb, leb}
use Rattle.base.proofs.Logic.{either}
use Rattle.base.proofs.Sums.{any_none, any_some, any_place}
use Rattle.strips.specs.Strips.{whole_days}

module _ (n t : ℕ) where
  -- no number of days gives the length
  none : ((days : ℕ) → 1 ≤ days → days < 1 + 400 → t ≡ 6 * n * days → ⊥) → whole_days n t ≡ false
  unfolding whole_days
  none h = any_none (λ days. eqb t (6 * n * days)) 1 400 (λ days l m. ne_eqb t (6 * n * days) (h days l m))

  pub part_of_a_day : (t % (6 * n) ≡ 0 → ⊥) → whole_days n t ≡ false
  part_of_a_day h = none (λ days l m e. h (rw e (mul-mod_right (6 * n) days)))

  pub under_a_day : t < 6 * n → whole_days n t ≡ false
  under_a_day h =
      none (λ days l m e. let one : 6 * n * 1 ≤ 6 * n * days = mul-le-mul_left (6 * n) l in omega (arith, mul-one (6 * n)))

  pub over_400_days : 400 * (6 * n) < t → whole_days n t ≡ false
  over_400_days h =
      none (λ days l m e. let most : days ≤ 400 = omega arith in let all : 6 * n * days ≤ 6 * n * 400 = mul-le-mul_left (6 * n) most in
      omega arith)

  pub whole_days_lem : 0 < 6 * n → t % (6 * n) ≡ 0 → 6 * n ≤ t → t ≤ 400 * (6 * n) → whole_days n t ≡ true
  unfolding whole_days
  whole_days_lem z rest least most =
      any_some (λ days. eqb t (6 * n * days)) 1 400 (t / (6 * n))
      ((le-div_iff_mul-le z).1 (omega arith)) ((div-lt_iff_lt-mul z).1 (omega arith))
      (eq-eqb t (6 * n * (t / (6 * n))) (sym (rw (rest, add-zero) at (div-add-mod t (6 * n)))))

  -- its length is that of whole records
  pub whole_records : whole_days n t ≡ true → t ≡ 6 * (t / 6)
  unfolding whole_days
  whole_records e =
      let (days, l, m, q) = any_place (λ days. eqb t (6 * n * days)) 1 400 e in
      let s : t ≡ 6 * n * days = eqb-true t (6 * n * days) q in
      omega (arith, mul_assoc 6 n days)

-- the tests of the code, one after the other
pub tests : (n t : ℕ) → 0 < n → whole_days n t ≡ (eqb (t % (6 * n)) 0 && (leb (6 * n) t && leb t (400 * (6 * n))))
tests n t z =
    ⊎_elim
    (λ e. ⊎_elim
    (λ f. ⊎_elim
    (λ g. whole_days_lem n t (omega arith) (eqb-true _ _ e) (leb-true _ _ f) (leb-true _ _ g) ∙ sym (rw (e, f, g)))
    (λ g. over_400_days n t (leb-false _ _ g) ∙ sym (rw (e, f, g))) (either (leb t (400 * (6 * n)))))
    (λ f. under_a_day n t (leb-false _ _ f) ∙ sym (rw (e, f))) (either (leb (6 * n) t)))
    (λ e. part_of_a_day n t (eqb-false _ _ e) ∙ sym (rw e)) (either (eqb (t % (6 * n)) 0))
