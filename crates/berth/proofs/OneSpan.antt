-- A book whose dial is read at boundaries 0 and D alone has one span, in which every slot lies.
use mathlib.Core.Bool.{true, false}
use mathlib.Core.List.{List, [], ◌∷◌}
use mathlib.Core.Option.{some}
use mathlib.Core.Path.{◌≡◌, refl}
use Prim.Native.Nat.{ℕ, zero, suc, ◌+◌, ◌-◌, ◌/◌, ◌≤◌, ◌<◌}
use native.Mathlib.Omega.{arith}
use Rattle.rules.specs.declared.Head.{Head}
use Rattle.rules.specs.Opening.{Cells, head_ok, slots_per_day, slot_count}
use Rattle.rules.specs.Spans.{is_read, last_read, next_read, in_span, between, outcome_at, span_of, span_to, span_from, spans_from, spans}
use Rattle.rules.proofs.Boundaries.{last_found, next_found}
use Rattle.rules.proofs.Bounds.{bounded, day_below}

pub record Ends (h : Head) (r : List ℕ) : Type 0 where
  pub first : is_read r 0 ≡ true
  pub last : is_read r h.days ≡ true
  pub none : (d : ℕ) → 0 < d → d < h.days → is_read r d ≡ false

module _ (h : Head) (good : head_ok h ≡ true) (b : Cells) (ends : Ends h b.read_versions) where
  next_end : (d : ℕ) → d < h.days → next_read b.read_versions (d + 1) (h.days - d) ≡ some h.days
  next_end d lt =
      next_found b.read_versions (h.days - d) (d + 1) h.days
      (record { low = omega arith; high = omega arith; here = ends.last; before = λ x p q. ends.none x (omega arith) q })

  last_start : (d : ℕ) → d < h.days → last_read b.read_versions d ≡ some 0
  last_start d lt =
      last_found b.read_versions d 0 (record { low = omega arith; here = ends.first; after = λ x p q. ends.none x p (omega arith) })

  none_from : (k d : ℕ) → 0 < d → d + k ≤ h.days → spans_from h b d k ≡ []
  unfolding spans_from span_from
  none_from zero d p q = refl
  none_from (suc k) d p q = rw (ends.none d p (omega arith), none_from k (suc d) (omega arith) (omega arith))

  -- one for each count of days from 1 on
  spans_from_lem : (n : ℕ) → n ≡ h.days → 0 < n → spans_from h b 0 n ≡ span_of h b 0 h.days ∷ []
  unfolding spans_from span_from span_to
  spans_from_lem zero e p = absurd (omega arith)
  spans_from_lem (suc n) e p = rw (ends.first, next_end 0 (omega arith), none_from n 1 (omega arith) (omega arith))

  pub one_span : spans h b ≡ span_of h b 0 h.days ∷ []
  unfolding spans
  one_span = spans_from_lem h.days refl (omega (arith, (bounded h good).days_low))

  pub all_inside : (i : ℕ) → i < slot_count h → outcome_at h b i ≡ in_span h b 0 h.days i
  unfolding outcome_at between
  all_inside i lt =
      let d = day_below h (bounded h good) i lt in
      rw (last_start (i / slots_per_day h) d, next_end (i / slots_per_day h) d)
