-- A slot lies in the span that its day lies in, or in none.
use mathlib.Core.Logic.{⊎_elim}
use mathlib.Core.Option.{Option, none, some}
use mathlib.Core.Path.{◌≡◌, refl, sym, ap, ◌∙◌}
use Prim.Native.Nat.{ℕ, ◌+◌, ◌-◌, ◌*◌, ◌/◌, ◌≤◌, ◌<◌}
use native.Mathlib.Nat.{add-mul, mul_comm, mul-le-mul_right, le-div_iff_mul-le, div-lt_iff_lt-mul}
use native.Mathlib.Omega.{arith}
use borrow.Author.Tests.{leb-true, leb-false}
use lib.Dec.{leb}
use Rattle.base.proofs.Logic.{either}
use Rattle.rules.specs.declared.Head.{Head}
use Rattle.rules.specs.declared.Outcome.{Outcome}
use Rattle.rules.specs.declared.Span.{Span}
use Rattle.rules.specs.Opening.{Cells, slots_per_day, slot_count}
use Rattle.rules.specs.Filling.{filled_at}
use Rattle.rules.specs.Spans.{last_read, next_read, start, slots_in, span_of, in_span, between, outcome_at}
use Rattle.rules.proofs.Bounds.{Bounded}
use Rattle.rules.proofs.Boundaries.{Last, Next, last_tells, last_found, next_tells, next_found}
use Rattle.rules.proofs.Neighbours.{Neighbours, neighbours}

-- a stretch between two boundaries ends where the later one is
pub span_end : (h : Head) (b : Cells) (first last : ℕ) → first ≤ last → start h b first last + slots_in h b first last ≡ last *
    slots_per_day h
unfolding start slots_in
span_end h b first last l =
    let e : first + (last - first) ≡ last = omega arith in
    sym (add-mul first (last - first) (slots_per_day h)) ∙ ap (λ (m : ℕ). m * slots_per_day h) e

pub slots_within : (h : Head) (first last : ℕ) → first ≤ last → last ≤ h.days
    → first * slots_per_day h + (last - first) * slots_per_day h ≤ slot_count h
unfolding slot_count
slots_within h first last l m =
    let e : first + (last - first) ≡ last = omega arith in
    rw (← add-mul first (last - first) (slots_per_day h), e, mul_comm (slots_per_day h) h.days) (mul-le-mul_right (slots_per_day h) m)

-- where slot i lies, by its outcome
pub data Place (h : Head) (b : Cells) (i : ℕ) : Outcome → Type 0 where
  outside : Place h b i (filled_at h b.slots b.agreed b.holidays i)
  inside : (s : Span) → Neighbours h b s → s.first * slots_per_day h ≤ i → i < s.last * slots_per_day h
      → Place h b i (in_span h b s.first s.last i)

module _ (h : Head) (bounds : Bounded h) (b : Cells) where
  positive : 0 < slots_per_day h
  positive = omega (arith, bounds.day_low)

  -- a slot of a span has the outcome that the span gives it
  pub in_span_lem : (s : Span) → Neighbours h b s → (i : ℕ) → s.first * slots_per_day h ≤ i → i < s.last * slots_per_day h
      → outcome_at h b i ≡ in_span h b s.first s.last i
  unfolding outcome_at between
  in_span_lem s n i l m =
      let d = i / slots_per_day h in
      let low : s.first ≤ d = (le-div_iff_mul-le positive).1 l in
      let high : d < s.last = (div-lt_iff_lt-mul positive).1 m in
      let p = next_tells b.read_versions (h.days - s.first) (s.first + 1) s.last n.next in
      let f : last_read b.read_versions d ≡ some s.first =
      last_found b.read_versions d s.first
      (record { low = low; here = n.first_read; after = λ x y z. p.before x (omega arith) (omega arith) }) in
      let g : next_read b.read_versions (d + 1) (h.days - d) ≡ some s.last =
      next_found b.read_versions (h.days - d) (d + 1) s.last
      (record { low = omega arith; high = omega (arith, n.within); here = n.last_read_lem; before = λ x y z. p.before x (omega arith) z })
      in
      rw (f, g)

  pub place : (i : ℕ) → Place h b i (outcome_at h b i)
  unfolding outcome_at between span_of
  place i =
      go (last_read b.read_versions (i / slots_per_day h))
      (next_read b.read_versions (i / slots_per_day h + 1) (h.days - i / slots_per_day h)) refl refl
    where
      joined : (d first last : ℕ) → Last b.read_versions d first → Next b.read_versions (d + 1) (h.days - d) last
          → next_read b.read_versions (first + 1) (h.days - first) ≡ some last
      joined d first last f g =
          next_found b.read_versions (h.days - first) (first + 1) last (record {
            low = omega (arith, f.low, g.low);
            high = omega (arith, f.low, g.low, g.high);
            here = g.here;
            before = λ x y z.
                ⊎_elim (λ e. f.after x (omega arith) (leb-true x d e)) (λ e. g.before x (omega (arith, leb-false x d e)) z)
                (either (leb x d));
          })

      go : (f l : Option ℕ) → last_read b.read_versions (i / slots_per_day h) ≡ f
          → next_read b.read_versions (i / slots_per_day h + 1) (h.days - i / slots_per_day h) ≡ l → Place h b i (between h b f l i)
      go (some first) (some last) p q =
          let f = last_tells b.read_versions (i / slots_per_day h) first p in
          let g = next_tells b.read_versions (h.days - i / slots_per_day h) (i / slots_per_day h + 1) last q in
          inside (span_of h b first last) (neighbours h b first last f.here (joined (i / slots_per_day h) first last f g))
          ((le-div_iff_mul-le positive).0 f.low) ((div-lt_iff_lt-mul positive).0 (omega (arith, g.low)))
      go (some first) none p q = outside
      go none l p q = outside
