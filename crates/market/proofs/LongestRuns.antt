-- A day's slots stand in one 400 each, with all that are alike beside them.
use Rattle.std.specs.Prelude.{Option, None, Some}
use mathlib.Core.Bool.{Bool, true, false, not, ◌||◌, false≢true}
use mathlib.Core.Logic.{⊎_elim}
use mathlib.Core.Path.{◌≡◌, refl, sym, ap, ◌∙◌}
use Prim.Native.Nat.{ℕ, zero, suc, ◌+◌, ◌-◌, ◌≤◌, ◌<◌}
use native.Mathlib.Nat.{eq-or-lt_of_le}
use native.Mathlib.Numerals.{add-one}
use native.Mathlib.Omega.{arith}
use borrow.Author.Tests.{eqb-false, ne_eqb, eq-eqb, not-false, ltb-true, ltb-false}
use lib.Dec.{eqb, ltb}
use Rattle.base.proofs.Logic.{either}
use Rattle.market.specs.declared.marks.Mark.{Mark}
use Rattle.market.specs.Fields.{same_code, alike, ends_run, start_of}
use Rattle.market.specs.Claim.{HasRecord, Holds, Alike, LongestRuns}
use Rattle.market.proofs.Joining.{start_le}
use Rattle.market.proofs.Splits.{alike_same}

or-false : (a b : Bool) → (a || b) ≡ false → (a ≡ false) × (b ≡ false)
or-false true b e = absurd (false≢true (sym e))
or-false false b e = (refl, e)

code_own : (code : Option ℕ) → same_code code code ≡ true
code_own None = refl
code_own (Some code) = eq-eqb code code refl

alike_own : (p : Mark) → alike p p ≡ true
alike_own p = rw (eq-eqb p.letter p.letter refl, code_own p.code)

module _ (mark : ℕ → Mark) (a n : ℕ) where
  pub start_after : (j : ℕ) → ends_run mark a n j ≡ true → start_of mark a n (suc j) ≡ suc j
  unfolding start_of
  start_after j e = rw e

  pub start_stays : (j : ℕ) → ends_run mark a n j ≡ false → start_of mark a n (suc j) ≡ start_of mark a n j
  unfolding start_of
  start_stays j e = rw e

  -- a run that goes on
  pub goes_on_lem : (j : ℕ) → ends_run mark a n j ≡ false → (mark (a + j) ≡ mark (a + (j + 1))) × (j + 1 ≡ n → ⊥)
  unfolding ends_run
  goes_on_lem j e =
      let same : Bool = alike (mark (a + j)) (mark (a + (j + 1))) in
      let (last, other) = or-false (eqb (j + 1) n) (not same) e in
      (alike_same (mark (a + j)) (mark (a + (j + 1))) (not-false same other), eqb-false (j + 1) n last)

  -- a run that ends before the day does
  ended : (j : ℕ) → ends_run mark a n j ≡ true → j + 1 < n → mark (a + j) ≡ mark (a + (j + 1)) → ⊥
  unfolding ends_run
  ended j e l same =
      let last : eqb (j + 1) n ≡ false = ne_eqb (j + 1) n (λ z. omega arith) in
      false≢true (rw (last, same, alike_own (mark (a + (j + 1)))) at e)

  -- the slots of the run that holds slot j, up to j
  up_to : (j i : ℕ) → start_of mark a n j ≤ i → i ≤ j → (mark (a + i) ≡ mark (a + j)) × (i < j → ends_run mark a n i ≡ false)
  up_to zero i l m =
      let here : i ≡ 0 = omega arith in
      rw here (refl, λ z. absurd (omega arith))
  up_to (suc j) i l m =
      ⊎_elim (λ (here : i ≡ suc j). rw here (refl, λ z. absurd (omega arith)))
      (λ before.
      ⊎_elim (λ t. absurd (omega (arith, start_after j t)))
      (λ t.
      let (same, on) = up_to j i (omega (arith, start_stays j t)) (omega arith) in
      (same ∙ rw (add-one j) at (goes_on_lem j t).0, λ _. ⊎_elim (λ (last : i ≡ j). rw last t) on (eq-or-lt_of_le (omega arith))))
      (either (ends_run mark a n j)))
      (eq-or-lt_of_le m)

  -- a run that does not begin with the day begins where one ended
  begins : (j p : ℕ) → start_of mark a n j ≡ suc p → ends_run mark a n p ≡ true
  unfolding start_of
  begins zero p e = absurd (omega arith)
  begins (suc j) p e =
      ⊎_elim (λ t. let here : j ≡ p = omega (arith, start_after j t) in rw (← here) t)
      (λ t. begins j p (sym (start_stays j t) ∙ e))
      (either (ends_run mark a n j))

  day_ends : (j : ℕ) → j + 1 ≡ n → ends_run mark a n j ≡ true
  unfolding ends_run
  day_ends j e = rw (eq-eqb (j + 1) n e)

  -- the end of the run that holds slot i
  found : (k i : ℕ) → i + suc k ≡ n → (e : ℕ) × HasRecord mark a n (start_of mark a n i) e × (i ≤ e)
  found zero i l = (i, record { inside = omega arith; ends = day_ends i (omega arith); starts = refl }, omega arith)
  found (suc k) i l =
      ⊎_elim (λ t. (i, record { inside = omega arith; ends = t; starts = refl }, omega arith))
      (λ t.
      let (e, has, after) = found k (suc i) (omega arith) in
      (e, record { inside = has.inside; ends = has.ends; starts = has.starts ∙ start_stays i t }, omega arith))
      (either (ends_run mark a n i))

  no_later : (i e f t : ℕ) → ends_run mark a n e ≡ true → i ≤ e → HasRecord mark a n t f → t ≤ i → f ≤ e
  no_later i e f t ends l has m =
      ⊎_elim
      (λ z.
      let before : e < f = ltb-true e f z in
      absurd (false≢true (sym ((up_to f e (omega (arith, has.starts)) (omega arith)).1 before) ∙ ends)))
      (λ z. ltb-false e f z)
      (either (ltb e f))

module _ (mark : ℕ → Mark) (a n s e : ℕ) (has : HasRecord mark a n s e) where
  begun : s ≤ e
  begun = omega (arith, start_le mark a n e, has.starts)

  all_alike : Alike mark a s e
  all_alike i l m =
      (up_to mark a n e i (omega (arith, has.starts)) m).0 ∙ sym (up_to mark a n e s (omega (arith, has.starts)) begun).0

  -- two neighbouring slots of which one ends a run are not both among slots that are alike
  split : (t f j : ℕ) → f < n → Alike mark a t f → ends_run mark a n j ≡ true → t ≤ j → j < f → ⊥
  split t f j inside same ends l m =
      ended mark a n j ends (omega arith) (same j l (omega arith) ∙ sym (same (j + 1) (omega arith) (omega arith)))

  none_longer : (t f : ℕ) → t ≤ s → e ≤ f → f < n → Alike mark a t f → (s ≡ t) × (e ≡ f)
  none_longer t f l m inside same =
      let before : t < s → ⊥ = λ z.
      split t f (s - 1) inside same (begins mark a n e (s - 1) (has.starts ∙ omega arith)) (omega arith) (omega (arith, begun)) in
      let after : e < f → ⊥ = λ z. split t f e inside same has.ends (omega (arith, begun)) z in
      (⊎_elim sym (λ z. absurd (before z)) (eq-or-lt_of_le l), ⊎_elim (λ z. z) (λ z. absurd (after z)) (eq-or-lt_of_le m))

module _ (mark : ℕ → Mark) (a n i : ℕ) where
  in_one : i < n → (s : ℕ) × (e : ℕ) × Holds mark a n s e i
  in_one l =
      let (e, has, after) = found mark a n (n - suc i) i (omega arith) in
      (start_of mark a n i, e, (has, start_le mark a n i, after))

  in_no_other : (s e t f : ℕ) → Holds mark a n s e i → Holds mark a n t f i → (s ≡ t) × (e ≡ f)
  in_no_other s e t f (p, l, m) (q, l', m') =
      let same : e ≡ f = omega (arith, no_later mark a n i e f t p.ends m q l', no_later mark a n i f e s q.ends m' p l) in
      (sym p.starts ∙ ap (start_of mark a n) same ∙ q.starts, same)

pub longest_runs : LongestRuns
longest_runs mark a n = record {
  covered = in_one mark a n;
  once = in_no_other mark a n;
  alike = all_alike mark a n;
  longest = none_longer mark a n;
}
