-- The numbers of a table, one word after another: `values` holds those passed, with zeros behind them.
use mathlib.Core.Bool.{true, false, and-false}
use mathlib.Core.List.{List, [], ◌∷◌, ◌++◌, map, append-nil}
use mathlib.Core.Path.{◌≡◌, refl, sym, ap, ◌∙◌}
use Prim.Native.Nat.{ℕ, zero, suc, ◌+◌, ◌-◌, ◌≤◌, ◌<◌}
use native.Mathlib.Nat.{zero-add}
use native.Mathlib.Numerals.{add-one}
use native.Mathlib.Omega.{arith}
use borrow.Author.Tests.{le-leb, lt-leb}
use lib.ListN.{length, take, drop, set, replicate, length-map, length-set, take-append-drop}
use Rattle.std.specs.Prelude.{Some, None}
use Rattle.text_log.specs.Numbers.{value_of, number_of}
use Rattle.text_log.specs.Words.{are_numbers}
use Rattle.text_log.specs.Inner.Parsing.{limits_in}
use Rattle.text_log.specs.Line.{are_limits}
use Rattle.text_log.proofs.Reading.{not_number, is_number_lem}
use Rattle.text_log.proofs.Fields.{taken_next}

-- what is known of all words once `count` of them are passed and `rest` are left
pub record Passed (words rest : List (List ℕ)) (values : List ℕ) (count : ℕ) : Type 0 where
  pub room : length values ≡ 24
  pub few : count ≤ 24
  pub zeros : drop count values ≡ replicate (24 - count) 0
  pub many : length words ≡ count + length rest
  pub numbers : are_numbers (length words) words ≡ are_numbers (length rest) rest
  pub taken : map value_of words ≡ take count values ++ map value_of rest

pub none_passed : (words : List (List ℕ)) → Passed words words (replicate 24 0) 0
none_passed words = record { room = refl; few = omega arith; zeros = refl; many = sym (zero-add _); numbers = refl; taken = refl }

-- the numbers of a table are 1 to 24
too_many : (words : List (List ℕ)) → 24 < length words → None ≡ limits_in words
unfolding limits_in are_limits
too_many words l = rw (lt-leb _ _ l, and-false)

no_numbers : (words : List (List ℕ)) → are_numbers (length words) words ≡ false → None ≡ limits_in words
unfolding limits_in are_limits
no_numbers words e = rw (e, and-false)

-- dropping one more, which was set
drop_on : (values : List ℕ) (i v k : ℕ) → drop i values ≡ replicate (suc k) 0 → drop (suc i) (set values i v) ≡ replicate k 0
drop_on [] zero v k e = absurd (omega (arith, ap length e))
drop_on (x ∷ xs) zero v k e = ap (drop 1) e
drop_on [] (suc i) v k e = absurd (omega (arith, ap length e))
drop_on (x ∷ xs) (suc i) v k e = drop_on xs i v k e

module _ (words ws : List (List ℕ)) (w : List ℕ) (rest : List (List ℕ)) (values : List ℕ) (count : ℕ) (p : Passed words ws values count)
    (e : ws ≡ w ∷ rest) where
  one_more : length words ≡ count + suc (length rest)
  one_more = p.many ∙ ap (λ (x : List (List ℕ)). count + length x) e

  pub passed_not : number_of w ≡ None → None ≡ limits_in words
  unfolding are_numbers
  passed_not n = no_numbers words (p.numbers ∙ rw (e, not_number w n) refl)

  pub passed_next : (count ≡ 24 → ⊥) → (v : ℕ) → number_of w ≡ Some v → Passed words rest (set values count v) (count + 1)
  unfolding are_numbers
  passed_next c v n =
      let is = is_number_lem w v n in
      let less : count < 24 = omega (arith, p.few) in
      let more : 24 - count ≡ suc (24 - suc count) = omega arith in
      let inside : count < length values = omega (arith, p.room) in
      record {
        room = rw length-set p.room;
        few = omega arith;
        zeros = rw (add-one count) (drop_on values count v (24 - suc count) (rw more at p.zeros));
        many = omega (arith, one_more);
        numbers = p.numbers ∙ rw (e, is.0) refl;
        taken = p.taken ∙ taken_next ws rest w e values v count inside is.1;
      }

pub passed_too_many : (words ws rest : List (List ℕ)) (w values : List ℕ) (count : ℕ) → Passed words ws values count → ws ≡ w ∷ rest
    → count ≡ 24 → None ≡ limits_in words
passed_too_many words ws rest w values count p e c = too_many words (omega (arith, p.many, ap length e))

-- no word is left
module _ (words ws : List (List ℕ)) (values : List ℕ) (count : ℕ) (p : Passed words ws values count) (e : ws ≡ []) where
  many : length words ≡ count
  many = omega (arith, p.many, ap length e)

  pub passed_none : count ≡ 0 → None ≡ limits_in words
  unfolding limits_in are_limits
  passed_none n = let few : length words < 1 = omega (arith, many) in rw (lt-leb _ _ few)

  pub passed_all : (count ≡ 0 → ⊥) → Some (record { values = values; count = count }) ≡ limits_in words
  unfolding limits_in are_limits are_numbers
  passed_all n =
      let some : 1 ≤ length words = omega (arith, many) in
      let few : length words ≤ 24 = omega (arith, many, p.few) in
      let numbers : are_numbers (length words) words ≡ true = p.numbers ∙ rw e refl in
      let taken : map value_of words ≡ take count values = p.taken ∙ (rw (e, append-nil) refl) in
      let long : length (map value_of words) ≡ count = length-map words value_of ∙ many in
      let whole : values ≡ take count values ++ replicate (24 - count) 0 = sym (take-append-drop count values)
      ∙ ap (λ (x : List ℕ). take count values ++ x) p.zeros in
      let here : values ≡ map value_of words ++ replicate (24 - length (map value_of words)) 0 = rw (long, taken) whole in
      rw (le-leb 1 (length words) some, le-leb (length words) 24 few, numbers)
      (λ t. Some (record { values = here t; count = sym long t }))
