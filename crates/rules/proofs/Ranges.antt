-- Where the advance of a span lies, and the advance that it is held to (02, W10).
use mathlib.Core.Bool.{Bool, true, false, cond}
use mathlib.Core.Logic.{⊎_elim}
use mathlib.Core.Path.{◌≡◌, refl}
use Prim.Native.Nat.{ℕ, ◌+◌, ◌-◌, ◌≤◌, ◌<◌}
use native.Mathlib.Omega.{arith}
use borrow.Author.Tests.{leb-true, leb-false, le-leb}
use lib.Dec.{leb}
use Rattle.base.proofs.Logic.{and_parts, either}
use Rattle.rules.specs.declared.range.Range.{Range}
use Rattle.rules.specs.Spans.{advance, range_of, least_in, is_near}

-- |a − v|
abbrev pub apart : ℕ → ℕ → ℕ
apart a v = (a - v) + (v - a)

pub advance_below : (earlier later : ℕ) → advance earlier later < 100_000_000
unfolding advance
advance_below earlier later = omega arith

module _ (g u v : ℕ) where
  pub range_of_ordered : (range_of g u v).lowest ≤ (range_of g u v).highest
  unfolding range_of
  range_of_ordered = ⊎_elim (λ e. rw e (omega arith)) (λ e. rw e (omega arith)) (either (leb 100_000_000 (g + v)))

  -- an eight-digit dial goes round at most once
  pub range_of_low : g < 100_000_000 → v ≤ 9999 → (range_of g u v).highest ≤ 99_999_999
  unfolding range_of
  range_of_low l m =
      ⊎_elim (λ e. rw e (omega arith)) (λ e. let n = leb-false 100_000_000 (g + v) e in rw e (omega arith))
      (either (leb 100_000_000 (g + v)))

-- where v lies, by the advance
data Least (range : Range) (v : ℕ) : ℕ → Type 0 where
  below : v ≤ range.lowest → Least range v range.lowest
  inside : range.lowest < v → v ≤ range.highest → Least range v v
  over : range.lowest < v → range.highest < v → Least range v range.highest

module _ (range : Range) (v : ℕ) where
  least : Least range v (least_in range v)
  unfolding least_in
  least = go (leb v range.lowest) refl (leb v range.highest) refl
    where
      go : (s : Bool) → leb v range.lowest ≡ s → (t : Bool) → leb v range.highest ≡ t
          → Least range v (cond s range.lowest (cond t v range.highest))
      go true e t f = below (leb-true _ _ e)
      go false e true f = inside (leb-false _ _ e) (leb-true _ _ f)
      go false e false f = over (leb-false _ _ e) (leb-false _ _ f)

  module _ (ordered : range.lowest ≤ range.highest) where
    -- it lies in the range
    pub least_within : (range.lowest ≤ least_in range v) × (least_in range v ≤ range.highest)
    least_within = go least
      where
        go : {r : ℕ} → Least range v r → (range.lowest ≤ r) × (r ≤ range.highest)
        go (below l) = (omega arith, ordered)
        go (inside l m) = (omega arith, m)
        go (over l m) = (ordered, omega arith)

    -- where an advance in the range is at least v, it is at least v too, and no higher than that one
    pub least_least : (a : ℕ) → range.lowest ≤ a → a ≤ range.highest → v ≤ a → (v ≤ least_in range v) × (least_in range v ≤ a)
    least_least a l m n = go least
      where
        go : {r : ℕ} → Least range v r → (v ≤ r) × (r ≤ a)
        go (below k) = (k, l)
        go (inside j k) = (omega arith, n)
        go (over j k) = (omega arith, omega arith)

    -- where there is none, it is the highest
    pub least_none : range.highest < v → least_in range v ≡ range.highest
    least_none n = go least
      where
        go : {r : ℕ} → Least range v r → r ≡ range.highest
        go (below l) = omega arith
        go (inside l m) = omega arith
        go (over l m) = refl

    module _ (t : ℕ) where
      -- the test of state 0 holds exactly when some advance in the range is within t of v
      pub near_found : is_near range v t ≡ true → (a : ℕ) × (range.lowest ≤ a) × (a ≤ range.highest) × (apart a v ≤ t)
      unfolding is_near
      near_found e =
          let p = and_parts (leb (range.lowest - v) t) (leb (v - range.highest) t) e in
          (least_in range v, least_within.0, least_within.1, go least (leb-true _ _ p.0) (leb-true _ _ p.1))
        where
          go : {r : ℕ} → Least range v r → range.lowest - v ≤ t → v - range.highest ≤ t → apart r v ≤ t
          go (below l) p q = omega arith
          go (inside l m) p q = omega arith
          go (over l m) p q = omega arith

      pub near_holds : (a : ℕ) → range.lowest ≤ a → a ≤ range.highest → apart a v ≤ t → is_near range v t ≡ true
      unfolding is_near
      near_holds a l m n =
          let p : leb (range.lowest - v) t ≡ true = le-leb (range.lowest - v) t (omega arith) in
          let q : leb (v - range.highest) t ≡ true = le-leb (v - range.highest) t (omega arith) in
          rw (p, q)
