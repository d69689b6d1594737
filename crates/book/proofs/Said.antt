-- The highest version among what the kept calls say of a place, and the content that goes with it.
use Rattle.base.specs.declared.Refusal.TheVariants.{Conflict}
use mathlib.Core.Path.{◌≡◌, refl, sym, subst, ◌∙◌}
use mathlib.Core.Bool.{Bool, true, false, cond, false≢true}
use mathlib.Core.List.{List, [], ◌∷◌, Memᴰ}
use mathlib.Core.Logic.{⊎_elim}
use Prim.Native.Nat.{ℕ, max, ◌≤◌, ◌<◌, zero-le}
use native.Mathlib.Nat.{le_antisymm, le_of_lt, le_trans, le-max_left, le-max_right, max-eq_left, max-eq_right}
use native.Mathlib.Omega.{arith}
use lib.Dec.{ltb}
use borrow.Author.Tests.{ltb-true, ltb-false, eq-eqb, ne_eqb}
use Rattle.base.specs.Lists.{up_to}
use Rattle.base.proofs.Logic.{either}
use Rattle.book.specs.Answers.{Answer, is_accepted, is_stored, by_version}
use Rattle.book.specs.Answers.Answer.{done, stored, late, repeat, refused}
use Rattle.book.specs.Filling.{stored_in}
use Rattle.book.specs.Plain.{Said, highest_version, content_with}
use Rattle.book.proofs.Tables.{up_to_filed}

-- the content of the call with the highest version
abbrev pub latest : {A : Type 0} → A → List (Said A) → A
latest zeros ss = content_with zeros (highest_version ss) ss

-- what the version rule knows with each answer
pub data Ruled (before version : ℕ) (same : Bool) : Answer → Type 0 where
  above : before < version → Ruled before version same stored
  below : version < before → Ruled before version same late
  equal : version ≡ before → same ≡ true → Ruled before version same repeat
  conflict : Ruled before version same (refused Conflict)

pub ruled : (before version : ℕ) (same : Bool) → Ruled before version same (by_version before version same)
unfolding by_version
ruled before version same = go (ltb before version) (ltb version before) same refl refl refl
  where
    go : (a b s : Bool) → ltb before version ≡ a → ltb version before ≡ b → same ≡ s
        → Ruled before version same (cond a stored (cond b late (cond s repeat (refused Conflict))))
    go true b s e d q = above (ltb-true _ _ e)
    go false true s e d q = below (ltb-true _ _ d)
    go false false true e d q = equal (le_antisymm (ltb-false _ _ e) (ltb-false _ _ d)) q
    go false false false e d q = conflict

-- an accepted call with the version before has the content before
pub ruled_same : {before version : ℕ} {same : Bool} {a : Answer} → Ruled before version same a → is_accepted a ≡ true → version ≡ before
    → same ≡ true
ruled_same (above lt) ok e = absurd (omega arith)
ruled_same (below lt) ok e = absurd (omega arith)
ruled_same (equal d q) ok e = q
ruled_same conflict ok e = absurd (false≢true ok)

module _ {A : Type 0} (zeros : A) where
  -- no call has a version above the highest, and more calls have no lower one
  pub member_low : (s : Said A) (ss : List (Said A)) → Memᴰ s ss → s.version ≤ highest_version ss
  unfolding highest_version
  member_low s [] x' = elim x' [ ]
  member_low s (t ∷ ss) (Memᴰ.head e) = rw e (le-max_left t.version (highest_version ss))
  member_low s (t ∷ ss) (Memᴰ.tail m) = le_trans (member_low s ss m) (le-max_right t.version (highest_version ss))

  -- one more call, with no lower version than the others, or with a lower one
  newest : (s : Said A) (ss : List (Said A)) (Q : ℕ → A → Type 0) → highest_version ss ≤ s.version
      → Q s.version s.content → Q (highest_version (s ∷ ss)) (latest zeros (s ∷ ss))
  unfolding highest_version content_with
  newest s ss Q le q =
      let e : max s.version (highest_version ss) ≡ s.version = max-eq_left le in
      rw (e, eq-eqb s.version s.version refl) q

  older : (s : Said A) (ss : List (Said A)) (Q : ℕ → A → Type 0) → s.version < highest_version ss
      → Q (highest_version ss) (latest zeros ss) → Q (highest_version (s ∷ ss)) (latest zeros (s ∷ ss))
  unfolding highest_version content_with
  older s ss Q lt q =
      let e : highest_version (s ∷ ss) ≡ highest_version ss = max-eq_right (le_of_lt lt) in
      subst (λ (v : ℕ). Q v (content_with zeros v (s ∷ ss))) (sym e) (rw (ne_eqb s.version (highest_version ss) (λ d. omega arith)) q)

  -- what holds of zeros and of each call holds of the highest version with its content
  pub from : (ss : List (Said A)) (Q : ℕ → A → Type 0) → Q 0 zeros
      → ((s : Said A) → Memᴰ s ss → Q s.version s.content) → Q (highest_version ss) (latest zeros ss)
  unfolding highest_version content_with
  from [] Q none some = none
  from (s ∷ ss) Q none some =
      let rest = from ss Q none (λ t m. some t (Memᴰ.tail m)) in
      ⊎_elim (λ e. older s ss Q (ltb-true _ _ e) rest) (λ e. newest s ss Q (ltb-false _ _ e) (some s (Memᴰ.head refl)))
      (either (ltb s.version (highest_version ss)))

  pub highest_within : (ss ts : List (Said A)) → ((s : Said A) → Memᴰ s ss → Memᴰ s ts) → highest_version ss ≤ highest_version ts
  highest_within ss ts sub = from ss (λ v a. v ≤ highest_version ts) zero-le (λ s m. member_low s ts (sub s m))

  -- an accepted call leaves what the answer says: its version and content, or those before
  pub step : (s : Said A) (ss : List (Said A)) (same : Bool) → (same ≡ true → s.content ≡ latest zeros ss)
      → (a : Answer) → Ruled (highest_version ss) s.version same a → is_accepted a ≡ true
      → (m : ℕ → A → ℕ) → m (highest_version (s ∷ ss)) (latest zeros (s ∷ ss))
      ≡ cond (is_stored a) (m s.version s.content) (m (highest_version ss) (latest zeros ss))
  step s ss same alike done r ok m = elim r [ ]
  step s ss same alike stored (above lt) ok m =
      newest s ss (λ v a. m v a ≡ m s.version s.content) (le_of_lt lt) refl
  step s ss same alike late (below lt) ok m = older s ss (λ v a. m v a ≡ m (highest_version ss) (latest zeros ss)) lt refl
  step s ss same alike repeat (equal e q) ok m =
      newest s ss (λ v a. m v a ≡ m (highest_version ss) (latest zeros ss)) (omega arith) (rw (e, alike q))
  step s ss same alike (refused n) r ok m = absurd (false≢true ok)

  -- a table of what is said of each place, when one accepted call more is for place j
  pub said_filed : (of next : ℕ → List (Said A)) (j : ℕ) (s : Said A) (same : Bool) → (same ≡ true → s.content ≡ latest zeros (of j))
      → is_accepted (by_version (highest_version (of j)) s.version same) ≡ true
      → next j ≡ s ∷ of j → ((i : ℕ) → (j ≡ i → ⊥) → next i ≡ of i) → (m : ℕ → A → ℕ) (n : ℕ)
      → up_to (λ i. m (highest_version (next i)) (latest zeros (next i))) 0 n
      ≡ stored_in (by_version (highest_version (of j)) s.version same) (up_to (λ i. m (highest_version (of i)) (latest zeros (of i))) 0 n) j
      (m s.version s.content)
  said_filed of next j s same alike ok here there m n =
      let a = by_version (highest_version (of j)) s.version same in
      up_to_filed (λ i. m (highest_version (of i)) (latest zeros (of i))) (λ i. m (highest_version (next i)) (latest zeros (next i))) n j
      (m s.version s.content) (λ i ne. rw (there i ne)) a
      (rw here (step s (of j) same alike a (ruled (highest_version (of j)) s.version same) ok m))

  -- of a call among calls with this highest version and its content
  pub record Fair (version : ℕ) (content : A) (s : Said A) : Type 0 where
    pub positive : 0 < s.version
    pub bounded : s.version ≤ version
    pub agreed : s.version ≡ version → s.content ≡ content

  abbrev pub AllFair : List (Said A) → Type 0
  AllFair ss = (s : Said A) → Memᴰ s ss → Fair (highest_version ss) (latest zeros ss) s

  -- one more call, with the content of the others where it has their highest version
  pub fair_next : (t : Said A) (ss : List (Said A)) → 0 < t.version → (t.version ≡ highest_version ss → t.content ≡ latest zeros ss)
      → AllFair ss → AllFair (t ∷ ss)
  fair_next t ss pos alike fair s (Memᴰ.head e) =
      rw e
      (⊎_elim
      (λ d. let lt = ltb-true _ _ d in older t ss (λ v a. Fair v a t) lt (record { positive = pos; bounded = le_of_lt lt; agreed = alike }))
      (λ d. newest t ss (λ v a. Fair v a t) (ltb-false _ _ d) (record { positive = pos; bounded = omega arith; agreed = λ q. refl }))
      (either (ltb t.version (highest_version ss))))
  fair_next t ss pos alike fair s (Memᴰ.tail m) =
      let f = fair s m in
      ⊎_elim (λ d. older t ss (λ v a. Fair v a s) (ltb-true _ _ d) f)
      (λ d.
      let le = ltb-false _ _ d in
      newest t ss (λ v a. Fair v a s) le
      (record {
        positive = f.positive;
        bounded = omega arith;
        agreed = λ q. f.agreed (omega arith) ∙ sym (alike (omega arith));
      }))
      (either (ltb t.version (highest_version ss)))

  -- calls among others, with no lower highest version, have the same highest version and content
  pub same_said : (ss ts : List (Said A)) → AllFair ts → ((s : Said A) → Memᴰ s ss → Memᴰ s ts)
      → highest_version ts ≤ highest_version ss → (highest_version ss ≡ highest_version ts) × (latest zeros ss ≡ latest zeros ts)
  same_said ss ts fair-t sub down =
      let e = le_antisymm up down in
      (e, from ss (λ v a. v ≡ highest_version ts → a ≡ latest zeros ts) none (λ s m. (fair-t s (sub s m)).agreed) e)
    where
      up : highest_version ss ≤ highest_version ts
      up = from ss (λ v a. v ≤ highest_version ts) zero-le (λ s m. (fair-t s (sub s m)).bounded)

      none : 0 ≡ highest_version ts → zeros ≡ latest zeros ts
      none = from ts (λ v a. 0 ≡ v → zeros ≡ a) (λ z. refl) (λ s m z. let pos = (fair-t s m).positive in absurd (omega arith))
