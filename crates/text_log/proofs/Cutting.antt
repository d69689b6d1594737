-- Lines found one after another.
use mathlib.Core.Bool.{Bool, true, false, not, cond}
use mathlib.Core.List.{List, [], ◌∷◌, map}
use mathlib.Core.Path.{◌≡◌, refl, ap}
use Prim.Native.Nat.{ℕ, suc, ◌+◌, ◌-◌, ◌<◌}
use native.Mathlib.Omega.{arith}
use borrow.Author.Tests.{ltb-true, ltb-false}
use lib.Dec.{eqb, ltb}
use lib.ListN.{length, take, drop, length-drop}
use lib.Seq.{drop-drop, drop-length, take_all}
use Rattle.text_log.specs.declared.line.LogLine.{LogLine}
use Rattle.text_log.specs.declared.lines.Cut.{Cut}
use Rattle.text_log.specs.Line.{entry_of}
use Rattle.text_log.specs.Log.{with_byte, lines, item_of, items}
use Rattle.text_log.specs.Inner.Lines.{LineAt, ItemAt, FoundAt}
use Rattle.std.specs.Prelude.{Some, None}
use Rattle.std.proofs.lemmas.List.{drop_all}
use Rattle.std.specs.List.{position, position_or_len}
use Rattle.text_log.proofs.Reading.{chosen_none, chosen_some}

-- where the first LF stands, or the length
abbrev first_end : List ℕ → ℕ
first_end bs = position_or_len (λ b. eqb b 10) bs

-- the first line ends there
first_line : (bs : List ℕ) → 0 < length bs → lines bs ≡ take (first_end bs) bs ∷ lines (drop (first_end bs + 1) bs)
unfolding lines with_byte
first_line [] l = absurd (omega arith)
first_line (b ∷ []) l = go (eqb b 10)
  where
    go : (t : Bool) → cond t ([] ∷ []) ((b ∷ []) ∷ [])
        ≡ take (cond (not t) (1 + 0) 0) (b ∷ []) ∷ lines (drop (cond (not t) (1 + 0) 0 + 1) (b ∷ []))
    go true = refl
    go false = refl
first_line (b ∷ x ∷ bs) l = go (eqb b 10) (first_line (x ∷ bs) (omega arith))
  where
    rest : ℕ
    rest = first_end (x ∷ bs)

    go : (t : Bool) → lines (x ∷ bs) ≡ take rest (x ∷ bs) ∷ lines (drop (rest + 1) (x ∷ bs))
        → cond t ([] ∷ lines (x ∷ bs)) (with_byte b (lines (x ∷ bs)))
        ≡ take (cond (not t) (1 + rest) 0) (b ∷ x ∷ bs) ∷ lines (drop (cond (not t) (1 + rest) 0 + 1) (b ∷ x ∷ bs))
    go true e = refl
    go false e = let z : 1 + rest ≡ suc rest = omega arith in let y : 1 + rest + 1 ≡ suc (rest + 1) = omega arith in rw (y, z, e)

module _ (bytes : List ℕ) (at : ℕ) (from : at < length bytes) where
  left : 0 < length (drop at bytes)
  left = rw length-drop (omega arith)

  -- the bytes from there on, as a slice has them
  abbrev pub line_on : List ℕ
  line_on = take (length bytes - at) (drop at bytes)

  all_on : line_on ≡ drop at bytes
  all_on = take_all _ _ (rw length-drop (omega arith))

  pub line_ends : (n : ℕ) → position (λ b. eqb b 10) line_on ≡ Some n → LineAt bytes at (record { end = at + n; next = at + n + 1 })
  line_ends n e =
      let is = chosen_some (ltb (first_end (drop at bytes)) (length (drop at bytes))) _ _ (rw all_on at e) in
      let inside : n < length bytes - at = rw (is.1, ← length-drop) (ltb-true _ _ is.0) in
      let part : at + n - at ≡ n = omega arith in
      let after : at + n + 1 ≡ at + (n + 1) = omega arith in
      record {
        begun = omega arith;
        ended = omega arith;
        further = omega arith;
        inside = omega arith;
        first = rw (part, after, ← drop-drop, is.1) (first_line (drop at bytes) left);
      }

  pub bytes_end : position (λ b. eqb b 10) line_on ≡ None → LineAt bytes at (record { end = length bytes; next = length bytes })
  unfolding lines
  bytes_end e =
      let end = first_end (drop at bytes) in
      let over = ltb-false _ _ (chosen_none (ltb end (length (drop at bytes))) _ (rw all_on at e)) in
      let line = take_all end (drop at bytes) over in
      let rest : drop (end + 1) (drop at bytes) ≡ [] = drop_all (end + 1) (drop at bytes) (omega (arith, over)) in
      record {
        begun = omega arith;
        ended = omega arith;
        further = omega arith;
        inside = omega arith;
        first = rw (all_on, drop-length) (rw (line, rest) at (first_line (drop at bytes) left));
      }

-- ---- What a line is

pub item_at : {bytes : List ℕ} {at : ℕ} {r : Cut} → LineAt bytes at r
    → ItemAt bytes at (item_of (take (r.end - at) (drop at bytes))) r.next
unfolding items
item_at cut = record { further = cut.further; inside = cut.inside; first = ap (map item_of) cut.first }

pub found_at : {bytes : List ℕ} {at : ℕ} {r : Cut} → LineAt bytes at r → (l : LogLine) → l ≡ (entry_of
    (take (r.end - at) (drop at bytes))).line
    → FoundAt bytes at l r.next
unfolding item_of
found_at {bytes} {at} {r} cut l is = record { limits = (entry_of (take (r.end - at) (drop at bytes))).limits; item = rw is (item_at cut) }
