-- The walk over a log's lines: before each, what is still to come from the present lists completes what was told.
use mathlib.Core.Bool.{Bool, true, false, cond}
use mathlib.Core.List.{List, [], ◌∷◌, ◌++◌, append_assoc, append-nil}
use mathlib.Core.Path.{◌≡◌, refl, sym, ap, ◌∙◌}
use Prim.Native.Nat.{ℕ, zero, suc, ◌+◌, ◌≤◌, ◌<◌}
use native.Mathlib.Numerals.{add-one}
use native.Mathlib.Omega.{arith}
use lib.Dec.{eqb}
use lib.ListN.{length, take, drop, set, length-set}
use lib.Seq.{take-suc-set, take-length}
use Rattle.rules.specs.declared.Head.{Head}
use Rattle.book.specs.Cells.{Book}
use Rattle.book.specs.Filling.{after_all}
use Rattle.text_log.specs.declared.limits.Limits.{Limits}
use Rattle.text_log.specs.declared.line.LogLine.{LogLine}
use Rattle.text_log.specs.Log.{with_byte, lines, Item, item_in, items, calls_in}
use Rattle.text_log.specs.Log.Item.{passed, table, opening, call, neither}
use Rattle.text_log.specs.Inner.Lines.{FoundAt}
use Rattle.play.specs.Playing.{log_calls, item_code, after_item, codes}
use Rattle.play.proofs.Stepping.{lines_first}

-- lines are left only where bytes are, and none only where none are
some_left : (at : ℕ) (bytes : List ℕ) → 0 < length (lines (drop at bytes)) → at < length bytes
unfolding lines
some_left zero [] some = absurd (omega arith)
some_left (suc at) [] some = absurd (omega arith)
some_left zero (b ∷ bs) some = omega arith
some_left (suc at) (b ∷ bs) some = let inside : at < length bs = some_left at bs some in omega arith

one_line : (b : ℕ) (ends : Bool) (rest : List (List ℕ)) → length (cond ends ([] ∷ rest) (with_byte b rest)) ≡ 0 → ⊥
unfolding with_byte
one_line b true rest e = omega arith
one_line b false [] e = omega arith
one_line b false (line ∷ rest) e = omega arith

no_lines : (bytes : List ℕ) → length (lines bytes) ≡ 0 → bytes ≡ []
unfolding lines
no_lines [] e = refl
no_lines (b ∷ bs) e = absurd (one_line b (eqb b 10) (lines bs) e)

pub record Walked (h : Head) (bytes : List ℕ) (first : Book) (answers : List ℕ) (b : Book) (at i : ℕ) : Type 0 where
  pub inside : at ≤ length bytes
  pub line_count : i + length (lines (drop at bytes)) ≡ length answers
  pub told : take i answers ++ codes h b (items (drop at bytes)) ≡ codes h first (items bytes)
  pub left : after_all h b (log_calls (drop at bytes)) ≡ after_all h first (log_calls bytes)

-- an item's call, if it is one, goes first
call_first : (h : Head) (b : Book) (x : Item) (xs : List Item) → after_all h b (calls_in (x ∷ xs)) ≡ after_all h (after_item h b x)
    (calls_in xs)
unfolding calls_in after_all after_item
call_first h b passed xs = refl
call_first h b (table t) xs = refl
call_first h b (opening o) xs = refl
call_first h b (call c) xs = refl
call_first h b neither xs = refl

module _ (h : Head) (bytes : List ℕ) (first : Book) where
  pub walk_first : (answers : List ℕ) → length answers ≡ length (lines bytes) → Walked h bytes first answers first 0 0
  walk_first answers e = record { inside = omega arith; line_count = omega arith; told = refl; left = refl }

  module _ {answers : List ℕ} {b : Book} {at i : ℕ} (w : Walked h bytes first answers b at i) where
    -- a byte of answers is left only where a line is
    pub walk_line : i < length answers → at < length bytes
    walk_line more = some_left at bytes (omega (arith, w.line_count))

    module _ {l : LogLine} {next : ℕ} (found : FoundAt bytes at l next) where
      walk_room : i < length answers
      walk_room = omega (arith, w.line_count, lines_first found.item)

      pub walk_next : (code : ℕ) (b' : Book)
          → ((limits : Limits) → (code ≡ item_code h b (item_in l limits)) × (b' ≡ after_item h b (item_in l limits)))
          → Walked h bytes first (set answers i code) b' next (i + 1)
      unfolding codes
      walk_next code b' made =
          let x = item_in l found.limits in
          let code_is : code ≡ item_code h b x = (made found.limits).0 in
          let lists : b' ≡ after_item h b x = (made found.limits).1 in
          let rest = items (drop next bytes) in
          let cut = found.item.first in
          record {
            inside = found.item.inside;
            line_count = rw length-set (omega (arith, w.line_count, lines_first found.item));
            told =
                rw (add-one, take-suc-set answers i code walk_room, append_assoc, lists, code_is)
                (ap (λ (xs : List Item). take i answers ++ codes h b xs) (sym cut) ∙ w.told);
            left = rw lists (sym (call_first h b x rest) ∙ ap (λ (xs : List Item). after_all h b (calls_in xs)) (sym cut) ∙ w.left);
          }

    pub walk_last : length answers ≤ i → (answers ≡ codes h first (items bytes)) × (b ≡ after_all h first (log_calls bytes))
    unfolding items lines codes calls_in after_all
    walk_last over =
        let none = no_lines (drop at bytes) (omega (arith, w.line_count)) in
        let e : length answers ≡ i = sym w.line_count ∙ rw none (omega arith) in
        let all : take i answers ++ [] ≡ answers = append-nil (take i answers) ∙ rw (← e) (take-length answers) in
        (sym all ∙ (rw none at w.told), rw none at w.left)
