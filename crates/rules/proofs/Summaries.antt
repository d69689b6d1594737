-- The sums of a stretch of slots, slot by slot, and that they fit.
use mathlib.Core.Bool.{true, ◌||◌, or-false, or-true}
use mathlib.Core.List.{List}
use mathlib.Core.Path.{◌≡◌, refl, sym, ap, ◌∙◌}
use Prim.Native.Nat.{ℕ, zero, suc, ◌+◌, ◌*◌, ◌≤◌, zero-le}
use native.Mathlib.Nat.{add-zero, add-le-add, suc-mul, mul-le-mul, le_refl, le_trans}
use native.Mathlib.Numerals.{add-one}
use native.Mathlib.Omega.{arith}
use lib.Dec.{lit≤}
use Rattle.base.specs.Lists.{sum, any}
use Rattle.rules.specs.declared.Head.{Head}
use Rattle.rules.specs.declared.Outcome.{Outcome}
use Rattle.rules.specs.declared.Quality.{Quality}
use Rattle.rules.specs.declared.Quality.TheVariants.{A, S, F, N}
use Rattle.rules.specs.declared.spans.Summary.{Summary}
use Rattle.rules.specs.Opening.{Slots, Agreed, slot_count}
use Rattle.rules.specs.Filling.{filled_at, shape_at}
use Rattle.rules.specs.Spans.{is_a, is_s, is_f}
use Rattle.rules.specs.Inner.Lent.{AgreedLow}
use Rattle.rules.specs.Inner.Summaries.{summary_of, actual_added, added_to}
use Rattle.rules.proofs.Bounds.{Bounded, cap, shape_high, shapes_all, count_high}
use Rattle.rules.proofs.ValueBounds.{cond_small, shape_small, filled_low}
use Rattle.rules.proofs.Shapes.{shape_of_s}

-- a sum of small terms
pub sum_small : (f : ℕ → ℕ) (m : ℕ) → ((i : ℕ) → f i ≤ m) → (a k : ℕ) → sum f a k ≤ k * m
unfolding sum
sum_small f m p a zero = zero-le
sum_small f m p a (suc k) = rw (suc-mul k m) (add-le-add (sum_small f m p a k) (p (a + k)))

module _ (h : Head) (s : Slots) (agreed : Agreed) (holidays : List ℕ) (a k : ℕ) where
  summary_next : summary_of h s agreed holidays a (k + 1)
      ≡ added_to (summary_of h s agreed holidays a k) (filled_at h s agreed holidays (a + k)) (shape_at h s agreed holidays (a + k))
  unfolding summary_of added_to sum any
  summary_next = rw (add-one, shape_of_s h s agreed holidays (a + k))

  -- one slot on, where o is that slot and x its shape
  pub summary_on : (m r : Summary) (o : Outcome) (x : ℕ) → m ≡ summary_of h s agreed holidays a k → r ≡ added_to m o x
      → o ≡ filled_at h s agreed holidays (a + k) → x ≡ shape_at h s agreed holidays (a + k)
      → r ≡ summary_of h s agreed holidays a (k + 1)
  summary_on m r o x e f g i = f ∙ (rw (e, g, i) (sym summary_next))

  count_small : (summary_of h s agreed holidays a k).count ≤ k * 1
  unfolding summary_of
  count_small = sum_small _ 1 (λ i. cond_small (is_s (filled_at h s agreed holidays i).quality) 1 1 (lit≤ tt)) a k

  module _ (b : Bounded h) where
    actual_low : AgreedLow agreed → (summary_of h s agreed holidays a k).actual ≤ k * 99_999_999
    unfolding summary_of
    actual_low low =
        sum_small _ 99_999_999
        (λ i. cond_small (is_a (filled_at h s agreed holidays i).quality || is_f (filled_at h s agreed holidays i).quality) _ _
        (filled_low h b s agreed holidays i low)) a k

    shapes_low : (summary_of h s agreed holidays a k).shapes ≤ k * (12 * cap h)
    unfolding summary_of
    shapes_low = sum_small _ (12 * cap h) (λ i. shape_small h b s agreed holidays i) a k

    -- there is room for one slot more, with shape x
    pub summary_fits : AgreedLow agreed → k ≤ slot_count h → (m : Summary) (x : ℕ) → m ≡ summary_of h s agreed holidays a k
        → x ≡ shape_at h s agreed holidays (a + k)
        → (m.actual ≤ 11_519_999_884_800) × (m.shapes ≤ 115_200_000_000) × (m.count ≤ 115_200) × (x ≤ 6_000_000)
    summary_fits low l m x e f =
        let n = count_high h b in
        rw (e, f) (
          omega (arith, actual_low low),
          le_trans (le_trans shapes_low (mul-le-mul l (le_refl _))) (shapes_all h b),
          omega (arith, count_small),
          le_trans (shape_small h b s agreed holidays (a + k)) (shape_high h b),
        )

-- `spans::add` goes by the slot's quality
module _ (m : Summary) (o : Outcome) (x : ℕ) where
  with : Quality → Outcome
  with q = record { value = o.value; quality = q; method = o.method }

  added : (q : Quality) → o.quality ≡ q → added_to m (with q) x ≡ added_to m o x
  unfolding with
  added q e = ap (λ (y : Quality). added_to m (with y) x) (sym e)

  pub added_actual : o.quality ≡ A → actual_added m o.value ≡ added_to m o x
  unfolding added_to with
  added_actual e = simp (add-zero, or-false) refl ∙ added A e

  pub added_agreed : o.quality ≡ F → actual_added m o.value ≡ added_to m o x
  unfolding added_to with
  added_agreed e = simp (add-zero, or-false) refl ∙ added F e

  pub added_substituted : o.quality ≡ S
      → record { actual = m.actual; shapes = m.shapes + x; count = m.count + 1; hole = m.hole; filled = true } ≡ added_to m o x
  unfolding added_to with
  added_substituted e = simp (add-zero, or-false, or-true) refl ∙ added S e

  pub added_none : o.quality ≡ N
      → record { actual = m.actual; shapes = m.shapes; count = m.count; hole = true; filled = m.filled } ≡ added_to m o x
  unfolding added_to with
  added_none e = simp (add-zero, or-false, or-true) refl ∙ added N e
