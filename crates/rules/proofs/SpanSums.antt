-- The sums of a span's slots give its outcome and the scaling before its first slot.
use mathlib.Core.Bool.{Bool, true, false, cond}
use mathlib.Core.List.{List}
use mathlib.Core.Path.{◌≡◌, refl, sym, ap, ◌∙◌}
use Prim.Native.Nat.{ℕ, ◌*◌, ◌≤◌}
use native.Mathlib.Nat.{sub_self}
use borrow.Author.Tests.{leb-true, eq-eqb}
use lib.Dec.{leb}
use Rattle.base.specs.Lists.{sum}
use Rattle.base.proofs.Sums.{sum_cong}
use Rattle.rules.specs.declared.Head.{Head}
use Rattle.rules.specs.declared.range.Range.{Range}
use Rattle.rules.specs.declared.spans.Compared.{Compared}
use Rattle.rules.specs.declared.spans.Summary.{Summary}
use Rattle.rules.specs.Opening.{Slots, Agreed, Cells, slots_per_day}
use Rattle.rules.specs.Spans.{is_near, state_by, filled, shape, start, slots_in, G, range, R, actual_sum, state_of, T, all_zero, e, E, P}
use Rattle.rules.specs.Spans.{span_of, is_s}
use Rattle.rules.specs.Lent.{cells}
use Rattle.rules.specs.Inner.Summaries.{summary_of, compared_with, scaling_of}
use Rattle.rules.specs.Inner.Stretches.{scaling_at, span_stretch, stretch_by}
use Rattle.rules.proofs.Shapes.{shape_of_s}
use Rattle.rules.proofs.States.{stated}

scaled_advance : (hole full : Bool) (range : Range) (r v t : ℕ) → state_by hole full range r v t ≡ 1 → v ≤ r
unfolding state_by
scaled_advance hole full range r v t z = leb-true v r ((stated hole full (leb v r) (is_near range v t)).scaled_has (eq-eqb _ _ z)).1

-- state 1 is given only where R ≥ V
pub compared_advance : (h : Head) (readings widths : List ℕ) (first last : ℕ) (m : Summary) (found : Compared)
    → found ≡ compared_with h readings widths first last m
    → found.state ≡ 1 → m.actual ≤ found.advance
unfolding compared_with
compared_advance h readings widths first last m found f z =
    let state = ap (λ (x : Compared). x.state) f in
    let r = ap (λ (x : Compared). x.advance) f in
    rw r (scaled_advance _ _ _ _ _ _ (sym state ∙ z))

module _ (h : Head) (b : Cells) (first last : ℕ) where
  -- the sums of the span's first k slots, and of all
  abbrev pub summary : ℕ → Summary
  summary k = summary_of h b.slots b.agreed b.holidays (start h b first last) k

  abbrev whole : Summary
  whole = summary (slots_in h b first last)

  pub weights : (ones : Bool) (k : ℕ)
      → sum (λ i. cond (is_s (filled h b first last i).quality) (cond ones 1 (shape h b first last i)) 0) (start h b first last) k
      ≡ cond ones (summary k).count (summary k).shapes
  unfolding summary_of
  weights true k = refl
  weights false k = sum_cong _ _ _ _ (λ i l m. shape_of_s h b.slots b.agreed b.holidays i)

  scaling_first : scaling_of whole (R h b first last) ≡ scaling_at h b first last (start h b first last)
  unfolding scaling_of T actual_sum all_zero E e P summary_of sum
  scaling_first = rw (sub_self, weights (all_zero h b first last) (slots_in h b first last))

  module _ (m : Summary) (p : m ≡ whole) where
    pub compared_is : compared_with h b.readings b.widths first last m
        ≡ record { range = range h b first last; advance = R h b first last; state = state_of h b first last }
    unfolding compared_with G range R state_of actual_sum summary_of
    compared_is = rw p

    module _ (found : Compared) (f : found ≡ compared_with h b.readings b.widths first last m) where
      pub meet_span : record {
        first = first;
        last = last;
        lowest = found.range.lowest;
        highest = found.range.highest;
        state = found.state;
      } ≡ span_of h b first last
      unfolding span_of
      meet_span = rw (f, compared_is)

      pub meet_stretch : stretch_by (last * slots_per_day h) found.state m found.advance
          ≡ span_stretch h b first last (start h b first last)
      unfolding stretch_by span_stretch
      meet_stretch = rw (f, compared_is, p, scaling_first)

-- a span's scaling rests on no register version
module _ (h : Head) (s : Slots) (holidays readings v w : List ℕ) (agreed : Agreed) (widths : List ℕ) (first last : ℕ) where
  pub stretch_versions : (i : ℕ)
      → span_stretch h (cells s holidays readings v agreed widths) first last i
      ≡ span_stretch h (cells s holidays readings w agreed widths) first last i
  unfolding span_stretch G range R state_of actual_sum start slots_in T E all_zero e P
  stretch_versions i = refl
