-- With every width 0 a span is as 01 has it: one advance, and the state by it (02, W10).
use mathlib.Core.Bool.{Bool, false, true, cond, ◌&&◌, and-true}
use mathlib.Core.Logic.{⊎_elim}
use mathlib.Core.Path.{◌≡◌, ap, ◌∙◌}
use Prim.Native.Nat.{ℕ, ◌+◌, ◌-◌, ◌<◌}
use native.Mathlib.Omega.{arith}
use borrow.Author.Tests.{leb-true, leb-false, le-leb, lt-leb}
use lib.Dec.{leb}
use lib.ListN.{get_or}
use Rattle.base.specs.Lists.{any}
use Rattle.base.proofs.Logic.{either}
use Rattle.rules.specs.declared.Head.{Head}
use Rattle.rules.specs.declared.range.Range.{Range}
use Rattle.rules.specs.Opening.{Cells}
use Rattle.rules.specs.Spans.{is_s, is_n, range_of, least_in, is_near, state_by, filled, start, slots_in, G, range, actual_sum, R, state_of}
use Rattle.rules.specs.Spans.{span_of}
use Rattle.rules.proofs.Ranges.{apart, advance_below}

-- 01's state: 2 if a slot is N; else, if a slot is S, 1 when R ≥ V and 3 when R < V; else 0 when |R − V| ≤ t and 3 otherwise
abbrev pub dial_state : Bool → Bool → ℕ → ℕ → ℕ → ℕ
dial_state has_n has_s r v t = cond has_n 2 (cond has_s (cond (leb v r) 1 3) (cond (leb (apart r v) t) 0 3))

-- one advance
abbrev only : ℕ → Range
only g = record { lowest = g; highest = g }

range_only : (g : ℕ) → g < 100_000_000 → range_of g 0 0 ≡ only g
unfolding range_of
range_only g l =
    let e : leb 100_000_000 (g + 0) ≡ false = lt-leb 100_000_000 (g + 0) (omega arith) in
    let p : g - 0 ≡ g = omega arith in
    let q : g + 0 ≡ g = omega arith in
    rw e (λ t. record { lowest = p t; highest = q t })

least_only : (g v : ℕ) → least_in (only g) v ≡ g
unfolding least_in
least_only g v = ⊎_elim (λ e. rw e) (λ e. rw e) (either (leb v g))

near_only : (g v t : ℕ) → is_near (only g) v t ≡ leb (apart g v) t
unfolding is_near
near_only g v t = ⊎_elim below over (either (leb v g))
  where
    below : leb v g ≡ true → (leb (g - v) t && leb (v - g) t) ≡ leb (apart g v) t
    below e =
        let l = leb-true v g e in
        let z : leb (v - g) t ≡ true = le-leb (v - g) t (omega arith) in
        let s : g - v ≡ apart g v = omega arith in
        rw z (and-true (leb (g - v) t) ∙ ap (λ (x : ℕ). leb x t) s)

    over : leb v g ≡ false → (leb (g - v) t && leb (v - g) t) ≡ leb (apart g v) t
    over e =
        let l = leb-false v g e in
        let z : leb (g - v) t ≡ true = le-leb (g - v) t (omega arith) in
        let s : v - g ≡ apart g v = omega arith in
        rw z (ap (λ (x : ℕ). leb x t) s)

state_only : (has_n has_s : Bool) (g v t : ℕ) → state_by has_n has_s (only g) g v t ≡ dial_state has_n has_s g v t
unfolding state_by
state_only has_n has_s g v t = rw (near_only g v t)

module _ (h : Head) (b : Cells) (sharp : (d : ℕ) → get_or b.widths d 0 ≡ 0) (first last : ℕ) where
  abbrev g : ℕ
  g = G h b first last

  range_sharp : range h b first last ≡ only g
  unfolding range G
  range_sharp = rw (sharp first, sharp last) (range_only _ (advance_below _ _))

  advance_sharp : R h b first last ≡ g
  unfolding R
  advance_sharp = rw range_sharp (least_only g (actual_sum h b first last))

  abbrev state_then : ℕ
  state_then =
      dial_state
      (any (λ i. is_n (filled h b first last i).quality) (start h b first last) (slots_in h b first last))
      (any (λ i. is_s (filled h b first last i).quality) (start h b first last) (slots_in h b first last))
      g (actual_sum h b first last) h.tolerance

  state_sharp : state_of h b first last ≡ state_then
  unfolding state_of
  state_sharp = rw (advance_sharp, range_sharp) (state_only _ _ g (actual_sum h b first last) h.tolerance)

  -- R, lowest and highest are the advance of the readings, and the state is 01's
  pub sharp_dial : (R h b first last ≡ g)
      × (span_of h b first last ≡ record { first = first; last = last; lowest = g; highest = g; state = state_then })
  unfolding span_of
  sharp_dial = (
    advance_sharp,
    λ t. record { first = first; last = last; lowest = (range_sharp t).lowest; highest = (range_sharp t).highest; state = state_sharp t },
  )
