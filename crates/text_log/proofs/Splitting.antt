-- Words found one after another.
use mathlib.Core.Bool.{Bool, true, false, not, cond}
use mathlib.Core.List.{List, [], ◌∷◌, ◌++◌, append_assoc, append-nil}
use mathlib.Core.Path.{◌≡◌, refl, ◌∙◌}
use Prim.Native.Nat.{ℕ, suc, ◌+◌, ◌≤◌}
use native.Mathlib.Omega.{arith}
use borrow.Author.Tests.{ltb-false}
use lib.Dec.{eqb, ltb}
use lib.ListN.{length, take, drop}
use Rattle.std.specs.Prelude.{Some, None, unwrap_or}
use Rattle.std.specs.List.{position, position_or_len}
use Rattle.std.proofs.lemmas.List.Sums.{prefix_len-le-length}
use Rattle.text_log.specs.Words.{split}
use Rattle.text_log.specs.Inner.Parsing.{pieces_left}

-- what stands in front of the first separator is the first piece
pub cut_first : (s : ℕ) (begun bytes : List ℕ)
    → split s begun bytes
    ≡ (begun ++ take (position_or_len (λ b. eqb b s) bytes) bytes) ∷ pieces_left s (drop (position_or_len (λ b. eqb b s) bytes) bytes)
unfolding split pieces_left
cut_first s begun [] = rw append-nil
cut_first s begun (b ∷ bs) = go (eqb b s) (cut_first s (begun ++ (b ∷ [])) bs)
  where
    rest : ℕ
    rest = position_or_len (λ b. eqb b s) bs

    go : (t : Bool)
        → split s (begun ++ (b ∷ [])) bs ≡ ((begun ++ (b ∷ [])) ++ take rest bs) ∷ pieces_left s (drop rest bs)
        → cond t (begun ∷ split s [] bs) (split s (begun ++ (b ∷ [])) bs)
        ≡ (begun ++ take (cond (not t) (1 + rest) 0) (b ∷ bs)) ∷ pieces_left s (drop (cond (not t) (1 + rest) 0) (b ∷ bs))
    go true e = rw append-nil
    go false e = let z : 1 + rest ≡ suc rest = omega arith in rw z (e ∙ rw (append_assoc begun (b ∷ []) (take rest bs)))

-- the place of what is found, or the end
pub place_or_end : (t : ℕ → Bool) (xs : List ℕ) → unwrap_or (position t xs) (length xs) ≡ position_or_len t xs
place_or_end t xs = go (ltb (position_or_len t xs) (length xs)) refl (prefix_len-le-length (λ x. not (t x)) xs)
  where
    go : (b : Bool) → ltb (position_or_len t xs) (length xs) ≡ b → position_or_len t xs ≤ length xs
        → unwrap_or (cond b (Some (position_or_len t xs)) None) (length xs) ≡ position_or_len t xs
    go true e l = refl
    go false e l = omega (arith, ltb-false _ _ e)
