-- Where the spans pass their tests, a slot lies outside them exactly when it lies before the first or after the last.
use mathlib.Core.Path.{◌≡◌, refl, sym, ap, ◌∙◌}
use mathlib.Core.Bool.{Bool, true, false, not, ◌&&◌, false≢true}
use mathlib.Core.Logic.{⊎_elim}
use Prim.Native.Nat.{ℕ, zero, suc, ◌+◌, ◌-◌, ◌*◌, ◌≤◌, ◌<◌}
use native.Mathlib.Nat.{not-suc-le-zero, le_trans, mul-le-mul_right, eq-or-lt_of_le, le_of_suc-le-suc, lt_of_lt_of_le}
use native.Mathlib.Omega.{arith}
use borrow.Author.Tests.{leb-true, ltb-true, le-leb, lt-ltb, leb-false, ltb-false}
use lib.Dec.{leb, ltb}
use Rattle.base.specs.Lists.{any, all}
use Rattle.base.proofs.Logic.{and_parts, either, both, together}
use Rattle.base.proofs.Sums.{any_none, any_place, all_at, at_all, any_some}
use Rattle.file.specs.Reader.{Tables, scaled, span_ok, lies_in, outside_ok}
use Rattle.file.proofs.Inside.{ordered, within, follow}

not_parts : (b : Bool) → not b ≡ true → b ≡ false
not_parts true e = absurd (false≢true e)
not_parts false e = refl

module _ (t : Tables) (ok : all (span_ok t) 0 t.spans ≡ true) where
  abbrev n : ℕ
  n = t.per_day

  abbrev slots : ℕ
  slots = t.per_day * t.days

  abbrev marked : ℕ → Bool
  marked i = scaled (t.slot i)

  here : (j : ℕ) → j < t.spans → span_ok t j ≡ true
  here j l = all_at (span_ok t) t.spans ok j l

  first_le : (j : ℕ) → j < t.spans → (t.span 0).first ≤ (t.span j).first
  first_le zero l = omega arith
  first_le (suc j) l = omega (arith, follow t ok j l, first_le j (omega arith), ordered t j (here j (omega arith)))

  last_le : (m : ℕ) → m < t.spans → (j : ℕ) → j ≤ m → (t.span j).last ≤ (t.span m).last
  last_le zero l j h = ⊎_elim (λ e. rw e (omega arith)) (λ k. absurd (not-suc-le-zero k)) (eq-or-lt_of_le h)
  last_le (suc m) l j h =
      ⊎_elim (λ e. rw e (omega arith))
      (λ k. omega (arith, last_le m (omega arith) j (le_of_suc-le-suc k), follow t ok m l, ordered t (suc m) (here (suc m) l)))
      (eq-or-lt_of_le h)

  -- a span that slot i lies in
  pub record Covered (i : ℕ) : Type 0 where
    pub by : ℕ
    pub short : by < t.spans
    pub from : (t.span by).first * n ≤ i
    pub to : i < (t.span by).last * n

  -- a slot between the first span's start and the end of span m lies in a span
  find : (m : ℕ) → m < t.spans → (i : ℕ) → (t.span 0).first * n ≤ i → i < (t.span m).last * n → Covered i
  find zero l i a b = record { by = 0; short = l; from = a; to = b }
  find (suc m) l i a b =
      ⊎_elim (λ e. record { by = suc m; short = l; from = leb-true _ _ e; to = b })
      (λ e. find m (omega arith) i a (rw (follow t ok m l) at (leb-false ((t.span (suc m)).first * n) i e)))
      (either (leb ((t.span (suc m)).first * n) i))

  pub covers : (i : ℕ) → (marked i ≡ true → Covered i) → outside_ok t i ≡ true
  unfolding outside_ok
  covers i h =
      ⊎_elim
      (λ e. let c = h e in
      let in-j : lies_in t i c.by ≡ true = both _ _ (le-leb _ _ c.from) (lt-ltb _ _ c.to) in
      let found : any (lies_in t i) 0 t.spans ≡ true =
      any_some (lies_in t i) 0 t.spans c.by (omega arith) (omega (arith, c.short)) in-j in
      rw (e, found))
      (λ e. rw e) (either (marked i))

  covered : (i : ℕ) → outside_ok t i ≡ true → marked i ≡ true → Covered i
  unfolding outside_ok
  covered i h e =
      let found : any (lies_in t i) 0 t.spans ≡ true = rw e at h in
      let c = any_place (lies_in t i) 0 t.spans found in
      let p = and_parts (leb ((t.span c.0).first * n) i) (ltb i ((t.span c.0).last * n)) c.3 in
      record { by = c.0; short = omega (arith, c.2); from = leb-true _ _ p.0; to = ltb-true _ _ p.1 }

  -- no such method on a stretch that no span reaches
  clear : (a k : ℕ) → a + k ≤ slots → all (outside_ok t) 0 slots ≡ true → ((i : ℕ) → a ≤ i → i < a + k → Covered i → ⊥)
      → any marked a k ≡ false
  clear a k l e h =
      any_none marked a k
      (λ i x y. ⊎_elim (λ s. absurd (h i x y (covered i (all_at (outside_ok t) slots e i (omega arith)) s))) (λ s. s) (either (marked i)))

  missed : (a k i : ℕ) → any marked a k ≡ false → a ≤ i → i < a + k → marked i ≡ true → ⊥
  missed a k i e l m s = false≢true (sym e ∙ any_some marked a k i l m s)

  -- no spans: no method 18 or 19 at all
  pub no_spans : t.spans ≡ 0 → not (any marked 0 slots) ≡ all (outside_ok t) 0 slots
  no_spans z =
      together (not (any marked 0 slots)) (all (outside_ok t) 0 slots)
      (λ e. at_all (outside_ok t) slots (λ i l. covers i (λ s. absurd (missed 0 slots i (not_parts _ e) (omega arith) (omega arith) s))))
      (λ e. rw (clear 0 slots (omega arith) e (λ i _ _ c. omega (arith, c.short))))

  -- there are spans: none before the first and none after the last
  pub edges : (m : ℕ) → t.spans ≡ suc m
      → (not (any marked 0 ((t.span 0).first * n)) && not (any marked ((t.span m).last * n) (slots - (t.span m).last * n)))
      ≡ all (outside_ok t) 0 slots
  edges m z =
      let l : m < t.spans = omega arith in
      let low : (i : ℕ) → Covered i → (t.span 0).first * n ≤ i =
      λ i c. le_trans (mul-le-mul_right n (first_le c.by c.short)) c.from in
      let high : (i : ℕ) → Covered i → i < (t.span m).last * n =
      λ i c. lt_of_lt_of_le c.to (mul-le-mul_right n (last_le m l c.by (omega (arith, c.short)))) in
      let start-in : (t.span 0).first * n ≤ slots =
      le_trans (mul-le-mul_right n (omega (arith, ordered t 0 (here 0 (omega arith)))))
      (within t (t.span 0).last (ordered t 0 (here 0 (omega arith))).1) in
      let end-in : (t.span m).last * n ≤ slots = within t (t.span m).last (ordered t m (here m l)).1 in
      let before : Bool = any marked 0 ((t.span 0).first * n) in
      let after : Bool = any marked ((t.span m).last * n) (slots - (t.span m).last * n) in
      together (not before && not after) (all (outside_ok t) 0 slots)
      (λ e.
      let p = and_parts (not before) (not after) e in
      at_all (outside_ok t) slots (λ i k. covers i (λ s.
      ⊎_elim
      (λ x. ⊎_elim (λ y. find m l i (leb-true _ _ x) (ltb-true _ _ y))
      (λ y. let r = ltb-false i ((t.span m).last * n) y in
      absurd (missed ((t.span m).last * n) (slots - (t.span m).last * n) i (not_parts after p.1) r (omega arith) s))
      (either (ltb i ((t.span m).last * n))))
      (λ x. let r = leb-false ((t.span 0).first * n) i x in
      absurd (missed 0 ((t.span 0).first * n) i (not_parts before p.0) (omega arith) (omega arith) s))
      (either (leb ((t.span 0).first * n) i)))))
      (λ e.
      let none_before : before ≡ false = clear 0 ((t.span 0).first * n) (omega arith) e (λ i x y c. omega (arith, low i c)) in
      let none_after : after ≡ false =
      clear ((t.span m).last * n) (slots - (t.span m).last * n) (omega arith) e (λ i x y c. omega (arith, high i c)) in
      rw (none_before, none_after))

  -- the same, from the outcome of the first test
  pub edge_fails : (m : ℕ) → t.spans ≡ suc m → any marked 0 ((t.span 0).first * n) ≡ true → false ≡ all (outside_ok t) 0 slots
  edge_fails m z h =
      ap (λ (b : Bool). not b && not (any marked ((t.span m).last * n) (slots - (t.span m).last * n))) (sym h) ∙ edges m z

  pub edge_passes : (m : ℕ) → t.spans ≡ suc m → any marked 0 ((t.span 0).first * n) ≡ false
      → not (any marked ((t.span m).last * n) (slots - (t.span m).last * n)) ≡ all (outside_ok t) 0 slots
  edge_passes m z h =
      ap (λ (b : Bool). not b && not (any marked ((t.span m).last * n) (slots - (t.span m).last * n))) (sym h) ∙ edges m z
