-- There is one span fewer than boundaries with a reading.
use mathlib.Core.Bool.{Bool, true, false, cond, not}
use mathlib.Core.List.{List, [], ◌∷◌}
use mathlib.Core.Option.{Option, none, some}
use mathlib.Core.Path.{◌≡◌, refl, sym, ap, ap₂, ◌∙◌}
use Prim.Native.Nat.{ℕ, zero, suc, ◌+◌, ◌-◌, ◌≤◌}
use native.Mathlib.Numerals.{add-one}
use native.Mathlib.Omega.{arith}
use lib.Dec.{eqb}
use lib.ListN.{length, length-append}
use Rattle.std.specs.Prelude.{count_by}
use Rattle.std.proofs.lemmas.List.Sums.{sum_by-cons}
use Rattle.base.specs.Lists.{sum}
use Rattle.base.proofs.Sums.{sum_first, sum_none, sum_place}
use Rattle.rules.specs.declared.Head.{Head}
use Rattle.rules.specs.Opening.{Cells}
use Rattle.rules.specs.Spans.{is_read, next_read, span_to, span_from, spans_from, spans}
use Rattle.rules.specs.Inner.Stretches.{read_count}
use Rattle.rules.proofs.Boundaries.{next_tells, next_none}

-- 1 for a boundary with a reading
abbrev one : List ℕ → ℕ → ℕ
one r d = cond (is_read r d) 1 0

module _ (r : List ℕ) where
  one_small : (d : ℕ) → one r d ≤ 1
  one_small d = go (is_read r d)
    where
      go : (t : Bool) → cond t 1 0 ≤ 1
      go true = omega arith
      go false = omega arith

sum_shift : (f : ℕ → ℕ) (k : ℕ) → sum f 1 k ≡ sum (λ i. f (suc i)) 0 k
unfolding sum
sum_shift f zero = refl
sum_shift f (suc k) = let e : 1 + k ≡ suc (0 + k) = omega arith in
    ap₂ ◌+◌ (sum_shift f k) (ap f e)

-- the boundaries with a reading, counted over the list
pub read_versions_counted : (r : List ℕ) → count_by (λ v. not (eqb v 0)) r ≡ read_count r (length r)
unfolding read_count sum is_read
read_versions_counted [] = refl
read_versions_counted (v ∷ r) =
    sum_by-cons (λ (x : ℕ). cond (not (eqb x 0)) 1 0) v r
    ∙ ap (λ (n : ℕ). one (v ∷ r) 0 + n) (read_versions_counted r ∙ sym (sum_shift (one (v ∷ r)) (length r)))
    ∙ sym (sum_first (one (v ∷ r)) 0 (length r))

module _ (h : Head) (b : Cells) where
  abbrev r : List ℕ
  r = b.read_versions

  -- a span begins at d exactly when d is read and a later boundary too
  from_next : (d : ℕ) (o : Option ℕ) (rest : ℕ) → next_read r (d + 1) (h.days - d) ≡ o → rest ≡ sum (one r) (d + 1) (h.days - d)
      → length (cond (is_read r d) (span_to h b d o) []) + (rest - 1) ≡ one r d + rest - 1
  unfolding span_to
  from_next d none rest e s =
      let z : rest ≡ 0 = s ∙ sum_none (one r) (d + 1) (h.days - d) (λ x l m. rw (next_none r (h.days - d) (d + 1) e x l m)) in
      go (is_read r d) z
    where
      go : (t : Bool) → rest ≡ 0 → length (cond t (span_to h b d none) []) + (rest - 1) ≡ cond t 1 0 + rest - 1
      go true z = omega arith
      go false z = omega arith
  from_next d (some last) rest e s =
      let p = next_tells r (h.days - d) (d + 1) last e in
      let q : one r last ≡ 1 = rw p.here in
      let k : 1 ≤ rest = omega (arith, sum_place (one r) (d + 1) (h.days - d) last p.low p.high) in
      go (is_read r d) k
    where
      go : (t : Bool) → 1 ≤ rest → length (cond t (span_to h b d (some last)) []) + (rest - 1) ≡ cond t 1 0 + rest - 1
      go true k = omega arith
      go false k = omega arith

  counted : (k d : ℕ) → d + k ≡ h.days → length (spans_from h b d k) ≡ sum (one r) d (suc k) - 1
  unfolding spans_from span_from sum
  counted zero d e = omega (arith, one_small r (d + 0))
  counted (suc k) d e =
      let f : h.days - d ≡ suc k = omega arith in
      let p = counted k (suc d) (omega arith) in
      let q : sum (one r) (suc d) (suc k) ≡ sum (one r) (d + 1) (h.days - d) = ap (λ (x : ℕ). sum (one r) x (suc k)) (sym (add-one d)) ∙ ap
      (sum (one r) (d + 1)) (sym f) in
      rw (length-append, p) (from (sum (one r) (suc d) (suc k)) q ∙ ap (λ (x : ℕ). x - 1) (sym (sum_first (one r) d (suc k))))
    where
      from : (rest : ℕ) → rest ≡ sum (one r) (d + 1) (h.days - d) → length (span_from h b d) + (rest - 1) ≡ one r d + rest - 1
      from rest q = from_next d (next_read r (d + 1) (h.days - d)) rest refl q

  pub span_count_lem : length r ≡ suc h.days → length (spans h b) ≡ read_count r (length r) - 1
  unfolding spans read_count
  span_count_lem e = rw e (counted h.days 0 (omega arith))
