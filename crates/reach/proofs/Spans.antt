-- A span whose slots are filled alike in two books has one outcome, and so has each of its slots; the boundaries rest on the register
-- reads alone.
use mathlib.Core.Bool.{Bool}
use mathlib.Core.Path.{◌≡◌, ap}
use Prim.Native.Nat.{ℕ, ◌+◌, ◌-◌, ◌*◌, ◌≤◌, ◌<◌}
use native.Mathlib.Omega.{arith}
use lib.Dec.{eqb}
use Rattle.base.specs.Lists.{sum, any}
use Rattle.base.proofs.Sums.{sum_cong, any_cong}
use Rattle.book.specs.Cells.{with_slots}
use Rattle.rules.specs.declared.Head.{Head}
use Rattle.rules.specs.declared.Outcome.{Outcome}
use Rattle.rules.specs.declared.Quality.{Quality}
use Rattle.rules.specs.Opening.{Slots, Cells, slots_per_day}
use Rattle.rules.specs.Filling.{filled_at, shape_at}
use Rattle.rules.specs.Spans.{is_s, is_n, actual_in, start, slots_in, G, range, actual_sum, R, state_of, T, all_zero, e, E, C, P}
use Rattle.rules.specs.Spans.{new_value, in_span}
use Rattle.rules.specs.Spans.{span_of}

module _ (h : Head) (b : Cells) (t : Slots) where
  abbrev c : Cells
  c = with_slots b t

  -- slot j is filled alike, with the same shape
  abbrev pub Kept : ℕ → Type 0
  Kept j =
      (filled_at h b.slots b.agreed b.holidays j ≡ filled_at h t b.agreed b.holidays j)
      × (shape_at h b.slots b.agreed b.holidays j ≡ shape_at h t b.agreed b.holidays j)

  module _ (first last : ℕ) (kept : (j : ℕ) → first * slots_per_day h ≤ j → j < first * slots_per_day h + (last - first) * slots_per_day h
      → Kept j) where
    actual_same : actual_sum h b first last ≡ actual_sum h c first last
    unfolding actual_sum start slots_in
    actual_same = sum_cong _ _ _ _ (λ j l m. ap actual_in (kept j l m).0)

    R-same : R h b first last ≡ R h c first last
    unfolding R range G
    R-same = rw actual_same

    any_same : (q : Quality → Bool)
        → any (λ j. q (filled_at h b.slots b.agreed b.holidays j).quality) (first * slots_per_day h) ((last - first) * slots_per_day h)
        ≡ any (λ j. q (filled_at h t b.agreed b.holidays j).quality) (first * slots_per_day h) ((last - first) * slots_per_day h)
    any_same q = any_cong _ _ _ _ (λ j l m. ap (λ (o : Outcome). q o.quality) (kept j l m).0)

    state_same : state_of h b first last ≡ state_of h c first last
    unfolding state_of range G start slots_in
    state_same = rw (any_same is_n, any_same is_s, R-same, actual_same)

    pub span_same : span_of h b first last ≡ span_of h c first last
    unfolding span_of range G
    span_same = rw state_same

    zero_same : all_zero h b first last ≡ all_zero h c first last
    unfolding all_zero start slots_in
    zero_same = ap (λ (x : ℕ). eqb x 0) (sum_cong _ _ _ _ (λ j l m. (kept j l m).1))

    e_same : (j : ℕ) → Kept j → e h b first last j ≡ e h c first last j
    unfolding e
    e_same j k = rw (zero_same, k.0, k.1)

    -- the first k slots of the span
    part_same : (k : ℕ) → k ≤ (last - first) * slots_per_day h
        → sum (e h b first last) (first * slots_per_day h) k ≡ sum (e h c first last) (first * slots_per_day h) k
    part_same k l = sum_cong _ _ _ _ (λ j m n. e_same j (kept j m (omega arith)))

    module _ (j : ℕ) (low : first * slots_per_day h ≤ j) (high : j < first * slots_per_day h + (last - first) * slots_per_day h) where
      value_same : new_value h b first last j ≡ new_value h c first last j
      unfolding new_value T E C P start slots_in
      value_same =
          rw (
            R-same,
            actual_same,
            part_same ((last - first) * slots_per_day h) (omega arith),
            part_same (j + 1 - first * slots_per_day h) (omega arith),
            part_same (j - first * slots_per_day h) (omega arith),
          )

      pub in_span_same : in_span h b first last j ≡ in_span h c first last j
      unfolding in_span
      in_span_same = rw (value_same, state_same, (kept j low high).0)
