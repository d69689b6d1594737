-- The values of words that follow one another.
use mathlib.Core.Bool.{Bool, true, false, cond}
use mathlib.Core.List.{List, [], ◌∷◌, ◌++◌, map, append_assoc, append-nil}
use mathlib.Core.Path.{◌≡◌, refl, ◌∙◌}
use Prim.Native.Nat.{ℕ, suc, ◌+◌, ◌-◌, ◌≤◌, ◌<◌}
use native.Mathlib.Numerals.{add-one}
use native.Mathlib.Omega.{arith}
use lib.Dec.{eqb}
use lib.ListN.{length, take, set, length-set}
use lib.Seq.{take-suc-set, take-length}
use Rattle.std.specs.Prelude.{Some, None}
use Rattle.text_log.specs.Numbers.{value_of, number_of}
use Rattle.text_log.specs.Words.{split, are_numbers}
use Rattle.text_log.specs.Inner.Parsing.{pieces_left, words_left, numbers_in}
use Rattle.text_log.proofs.Reading.{chosen_none, chosen_some, not_number, is_number_lem}

-- ---- What is left behind a word

pub left_none : (rest : List ℕ) → length rest ≡ 0 → words_left rest ≡ []
unfolding pieces_left
left_none [] e = refl
left_none (b ∷ bs) e = absurd (omega arith)

pub left_words : (rest after : List ℕ) (b : ℕ) → rest ≡ b ∷ after → words_left rest ≡ split 32 [] after
unfolding pieces_left
left_words rest after b e = rw e

-- behind a separator stands at least one word
pub split_some : (s : ℕ) (b bs : List ℕ) → 1 ≤ length (split s b bs)
unfolding split
split_some s b [] = omega arith
split_some s b (c ∷ cs) = go (eqb c s) (split_some s (b ++ (c ∷ [])) cs)
  where
    go : (t : Bool) → 1 ≤ length (split s (b ++ (c ∷ [])) cs) → 1 ≤ length (cond t (b ∷ split s [] cs) (split s (b ++ (c ∷ [])) cs))
    go true l = omega arith
    go false l = l

pub left_some : (rest : List ℕ) → (length rest ≡ 0 → ⊥) → 1 ≤ length (words_left rest)
unfolding pieces_left
left_some [] n = absurd (n refl)
left_some (b ∷ bs) n = split_some 32 [] bs

-- one value more in its place
pub taken_next : (ws rest : List (List ℕ)) (w : List ℕ) → ws ≡ w ∷ rest → (values : List ℕ) (v i : ℕ) → i < length values → v ≡ value_of w
    → take i values ++ map value_of ws ≡ take (i + 1) (set values i v) ++ map value_of rest
taken_next ws rest w e values v i inside f =
    rw (add-one, e, take-suc-set values i v inside, append_assoc (take i values) (v ∷ []) (map value_of rest), f)

-- ---- So many numbers

pub numbers_none : (n : ℕ) (fields : List (List ℕ)) → are_numbers n fields ≡ false → None ≡ numbers_in n fields
unfolding numbers_in
numbers_none n fields e = rw e

pub numbers_some : (n : ℕ) (fields : List (List ℕ)) (values : List ℕ) → are_numbers n fields ≡ true → map value_of fields ≡ values
    → Some values ≡ numbers_in n fields
unfolding numbers_in
numbers_some n fields values e f = rw (e, f)

pub numbers_are_not : (n : ℕ) (fields : List (List ℕ)) → numbers_in n fields ≡ None → are_numbers n fields ≡ false
unfolding numbers_in
numbers_are_not n fields e = chosen_none (are_numbers n fields) _ e

pub numbers_are : (n : ℕ) (fields : List (List ℕ)) (values : List ℕ) → numbers_in n fields ≡ Some values
    → (are_numbers n fields ≡ true) × (values ≡ map value_of fields)
unfolding numbers_in
numbers_are n fields values e = chosen_some (are_numbers n fields) _ _ e

-- what is known of all words once i of n numbers are passed, and `rest` is left
pub record Known (n : ℕ) (fields : List (List ℕ)) (values rest : List ℕ) (i : ℕ) : Type 0 where
  pub long : length values ≡ n
  pub tested : are_numbers n fields ≡ are_numbers (n - i) (words_left rest)
  pub taken : map value_of fields ≡ take i values ++ map value_of (words_left rest)

pub known_first : (n : ℕ) (values rest : List ℕ) → length values ≡ n → Known n (words_left rest) values rest 0
known_first n values rest e = let z : n - 0 ≡ n = omega arith in record { long = e; tested = rw z; taken = refl }

module _ {n : ℕ} {fields : List (List ℕ)} {values rest : List ℕ} {i : ℕ} (k : Known n fields values rest i) where
  module _ (l : i < n) where
    one : n - i ≡ suc (n - (i + 1))
    one = omega arith

    -- a field is wanted, and there is none
    pub known_short : words_left rest ≡ [] → None ≡ numbers_in n fields
    unfolding are_numbers
    known_short e = numbers_none n fields (k.tested ∙ rw (one, e))

    module _ (w : List ℕ) (after : List ℕ) (e : words_left rest ≡ w ∷ words_left after) where
      pub known_not : number_of w ≡ None → None ≡ numbers_in n fields
      unfolding are_numbers
      known_not m = numbers_none n fields (k.tested ∙ rw (one, e, not_number w m))

      pub known_next : (v : ℕ) → number_of w ≡ Some v → Known n fields (set values i v) after (i + 1)
      unfolding are_numbers
      known_next v m =
          let is = is_number_lem w v m in
          let inside : i < length values = omega (arith, k.long) in
          record {
            long = simp length-set k.long;
            tested = k.tested ∙ rw (one, e, is.0);
            taken = k.taken ∙ taken_next (words_left rest) (words_left after) w e values v i inside is.1;
          }

  module _ (ends : i ≡ n) where
    none : n - i ≡ 0
    none = omega arith

    -- a field is left over
    pub known_over : (length rest ≡ 0 → ⊥) → None ≡ numbers_in n fields
    unfolding are_numbers
    known_over m = numbers_none n fields (k.tested ∙ rw none (over (words_left rest) (left_some rest m)))
      where
        over : (ws : List (List ℕ)) → 1 ≤ length ws → are_numbers 0 ws ≡ false
        over [] l = absurd (omega arith)
        over (w ∷ ws) l = refl

    pub known_all : length rest ≡ 0 → Some values ≡ numbers_in n fields
    unfolding are_numbers
    known_all e =
        numbers_some n fields values (k.tested ∙ rw (none, left_none rest e))
        (k.taken ∙ rw (left_none rest e, append-nil, ends, ← k.long) (take-length values))
