-- The spans of two books with the same register reads have the same boundaries, in order.
use mathlib.Core.Bool.{Bool, true, false, cond}
use mathlib.Core.List.{List, [], ◌∷◌, ◌++◌}
use mathlib.Core.Option.{Option, none, some}
use mathlib.Core.Path.{◌≡◌, refl, ap}
use Prim.Native.Nat.{ℕ, zero, suc, ◌+◌, ◌-◌, ◌<◌}
use native.Mathlib.Nat.{not-suc-le-zero, le_of_suc-le-suc}
use lib.ListN.{length, get_or}
use Rattle.rules.specs.declared.Head.{Head}
use Rattle.rules.specs.declared.Span.{Span}
use Rattle.rules.specs.Opening.{Slots, Cells}
use Rattle.rules.specs.Spans.{is_read, next_read, no_span, span_of, span_to, span_from, spans_from, spans}
use Rattle.book.specs.Cells.{with_slots}

module _ (h : Head) (b : Cells) (t : Slots) where
  abbrev c : Cells
  c = with_slots b t

  data Together : List Span → List Span → Type 0 where
    nothing : Together [] []
    more : (first last : ℕ) {xs ys : List Span} → Together xs ys → Together (span_of h b first last ∷ xs) (span_of h c first last ∷ ys)

  to_together : (d : ℕ) (o : Option ℕ) {xs ys : List Span} → Together xs ys → Together (span_to h b d o ++ xs) (span_to h c d o ++ ys)
  unfolding span_to
  to_together d none x = x
  to_together d (some last) x = more d last x

  one_together : (d : ℕ) {xs ys : List Span} → Together xs ys → Together (span_from h b d ++ xs) (span_from h c d ++ ys)
  unfolding span_from
  one_together d {xs} {ys} x = go (is_read b.read_versions d)
    where
      go : (r : Bool)
          → Together (cond r (span_to h b d (next_read b.read_versions (d + 1) (h.days - d))) [] ++ xs)
          (cond r (span_to h c d (next_read b.read_versions (d + 1) (h.days - d))) [] ++ ys)
      go true = to_together d (next_read b.read_versions (d + 1) (h.days - d)) x
      go false = x

  from_together : (k d : ℕ) → Together (spans_from h b d k) (spans_from h c d k)
  unfolding spans_from
  from_together zero d = nothing
  from_together (suc k) d = one_together d (from_together k (suc d))

  length_together : {xs ys : List Span} → Together xs ys → length xs ≡ length ys
  length_together nothing = refl
  length_together (more first last x) = ap suc (length_together x)

  -- the k-th spans of both lie between the same boundaries
  pub record Between (xs ys : List Span) (k : ℕ) : Type 0 where
    pub first : ℕ
    pub last : ℕ
    pub here : get_or xs k no_span ≡ span_of h b first last
    pub there : get_or ys k no_span ≡ span_of h c first last

  at_together : {xs ys : List Span} → Together xs ys → (k : ℕ) → k < length xs → Between xs ys k
  at_together nothing k l = absurd (not-suc-le-zero l)
  at_together (more first last x) zero l = record { first = first; last = last; here = refl; there = refl }
  at_together (more first last x) (suc k) l =
      let p = at_together x k (le_of_suc-le-suc l) in
      record { first = p.first; last = p.last; here = p.here; there = p.there }

  pub same_count : length (spans h b) ≡ length (spans h c)
  unfolding spans
  same_count = length_together (from_together h.days 0)

  pub same_boundaries : (k : ℕ) → k < length (spans h b) → Between (spans h b) (spans h c) k
  unfolding spans
  same_boundaries k l = at_together (from_together h.days 0) k l
