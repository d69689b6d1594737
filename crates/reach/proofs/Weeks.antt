-- Two books that differ at slot i alone find the same references of slot j, unless slot i lies among the days that are searched.
use mathlib.Core.Bool.{Bool, true, false}
use mathlib.Core.List.{List, ◌∷◌}
use mathlib.Core.Logic.{◌⊎◌, inl, inr}
use mathlib.Core.Path.{◌≡◌, refl, sym, ap, ap₂, ◌∙◌}
use Prim.Native.Nat.{ℕ, zero, suc, ◌+◌, ◌-◌, ◌*◌, ◌/◌, ◌≤◌, ◌<◌}
use native.Mathlib.Nat.{add-mul, add-mul-div_right}
use native.Mathlib.Omega.{arith}
use borrow.Author.Tests.{eqb-false, ltb-false}
use lib.Dec.{eqb, ltb}
use lib.ListN.{get_or, take}
use Rattle.calendar.specs.Calendar.{weekday, to_sunday}
use Rattle.calendar.proofs.Sundays.{one_to_seven, on_a_sunday}
use Rattle.rules.specs.declared.Head.{Head}
use Rattle.rules.specs.Opening.{Slots, first_day, slots_per_day}
use Rattle.rules.specs.Weeks.{first_back, farthest_back, weeks_within}
use Rattle.rules.specs.Filling.{references}
use Rattle.rules.specs.References.{each_week}
use Rattle.rules.specs.Inner.Ways.{value_of}
use Rattle.rules.proofs.References.{week_within, references_searched}
use Rattle.reach.specs.Reach.{Weeks, FromSunday}
use Rattle.reach.proofs.Alike.{SameAt, cond_same, cond_parts, reference_same}

module _ (h : Head) (s t : Slots) (holidays : List ℕ) (i : ℕ) (same : (k : ℕ) → (k ≡ i → ⊥) → SameAt s t k) where
  abbrev n : ℕ
  n = slots_per_day h

  -- a slot `days` days before slot j is slot i
  back : (days j : ℕ) → days * n ≤ j → j - days * n ≡ i → j ≡ i + (days + 7 * 0) * n
  back days j l e =
      let z : days + 7 * 0 ≡ days = omega arith in
      rw z (omega arith)

  -- none of the k weeks from `days` days before slot j leads to slot i
  weeks_same : (k days j : ℕ) → ((r : ℕ) → r < k → j ≡ i + (days + 7 * r) * n → ⊥)
      → each_week (value_of s) h s holidays days j k ≡ each_week (value_of t) h t holidays days j k
  unfolding each_week
  weeks_same zero days j far = refl
  weeks_same (suc k) days j far =
      cond_parts (ltb j (days * n)) (λ e. refl)
      (λ e.
      let l : days * n ≤ j = ltb-false _ _ e in
      let here : (j - days * n ≡ i → ⊥) = λ z. far 0 (omega arith) (back days j l z) in
      let rest = weeks_same k 7 (j - days * n) (λ r m z. far (suc r) (omega arith) (further days r j l z)) in
      let at = same (j - days * n) here in
      cond_same _ _ (reference_same h s t (j - days * n) at holidays) (λ x. ap₂ (λ (y : ℕ) (ys : List ℕ). y ∷ ys) at.value rest) rest)
    where
      further : (days r j : ℕ) → days * n ≤ j → j - days * n ≡ i + (7 + 7 * r) * n → j ≡ i + (days + 7 * suc r) * n
      further days r j l z =
          let e : days + 7 * suc r ≡ days + (7 + 7 * r) = omega arith in
          rw (e, add-mul days (7 + 7 * r) n) (omega arith)

  -- the days that slot j's own day decides
  module _ (pos : 0 < n) (j : ℕ) where
    abbrev d : ℕ
    d = j / n

    abbrev Within : ℕ → Type 0
    Within days = (j ≡ i + days * n) × (Weeks days ⊎ FromSunday h holidays days i j)

    day_of_lem : (days : ℕ) → j ≡ i + days * n → d ≡ i / n + days
    day_of_lem days e = rw e (add-mul-div_right i days pos)

    on_sunday : (r : ℕ) → j ≡ i + (to_sunday (first_day h + d) + 7 * r) * n → weekday (first_day h + i / n) ≡ 0
    on_sunday r e =
        let x = day_of_lem (to_sunday (first_day h + d) + 7 * r) e in
        let z = on_a_sunday (first_day h + d) (omega arith) in
        omega arith

    pub references_same : ((days : ℕ) → Within days → ⊥) → references h s holidays j ≡ references h t holidays j
    unfolding first_back farthest_back
    references_same far =
        references_searched h s holidays j
        ∙ ap (take 4) (weeks_same (weeks_within (first_back h holidays d) (farthest_back holidays d)) (first_back h holidays d) j
        (λ r l e. go (eqb (get_or holidays d 0) 0) refl r l e))
        ∙ sym (references_searched h t holidays j)
      where
        go : (x : Bool) → eqb (get_or holidays d 0) 0 ≡ x → (r : ℕ) → r < weeks_within (first_back h holidays d) (farthest_back holidays d)
            → j ≡ i + (first_back h holidays d + 7 * r) * n → ⊥
        go true x r l e =
            let k : 7 + 7 * r ≤ 364 = (week_within 7 364 r (omega arith)).0 (rw x at l) in
            far (7 + 7 * r) (rw x at e, inl (record { later = omega arith; whole = omega arith; most = k }))
        go false x r l e =
            let f : to_sunday (first_day h + d) + 7 * r ≤ 370 =
            (week_within (to_sunday (first_day h + d)) 370 r (one_to_seven (first_day h + d)).1).0 (rw x at l) in
            let p : j ≡ i + (to_sunday (first_day h + d) + 7 * r) * n = rw x at e in
            far (to_sunday (first_day h + d) + 7 * r) (
              p,
              inr (record {
                holiday = eqb-false _ _ x;
                sunday = on_sunday r p;
                later = omega (arith, one_to_seven (first_day h + d));
                most = f;
              }),
            )
