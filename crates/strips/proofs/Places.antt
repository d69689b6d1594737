-- Lists of what a function gives, and buffers that are written a slot at a time.
use mathlib.Core.Bool.{Bool, true, false, cond}
use mathlib.Core.List.{List, [], ◌∷◌}
use mathlib.Core.Logic.{⊎_elim}
use mathlib.Core.Path.{◌≡◌, refl, sym, ap, ◌∙◌}
use Prim.Native.Nat.{ℕ, zero, suc, ◌+◌, ◌*◌, ◌/◌, ◌%◌, ◌≤◌, ◌<◌, zero-le}
use native.Mathlib.Nat.{zero-add, zero-mul, suc-mul, mul-le-mul_right, mod-lt, mod-eq_of_lt, mod-add-div', add-mul-mod_self_right}
use native.Mathlib.Nat.{add-mul-div_right, div-eq_of_lt, div-lt_iff_lt-mul, not-suc-le-zero, le_of_suc-le-suc, eq-or-lt_of_le}
use native.Mathlib.Omega.{arith}
use borrow.Author.Tests.{lt-ltb, le-ltb, ltb-true, ltb-false, eqb-true, eqb-false}
use lib.Dec.{ltb, eqb}
use lib.ListN.{length, get_or, set, length-set}
use lib.Seq.{ext_get_or, get_or-set_same, get_or-set_other}
use Rattle.base.specs.Lists.{up_to}
use Rattle.base.proofs.Lists.{length_up_to, up_to_list, get_d_up_to}
use Rattle.base.proofs.Logic.{either}
use Rattle.strips.specs.Inner.Laying.{strewn}

pub up_to_at : (f : ℕ → ℕ) (k i : ℕ) → i < k → get_or (up_to f 0 k) i 0 ≡ f i
up_to_at f k i l = get_d_up_to f 0 0 k i l ∙ ap f (zero-add i)

-- a list is what f gives when each place is
pub up_to_all : (f : ℕ → ℕ) (xs : List ℕ) → ((p : ℕ) → p < length xs → f p ≡ get_or xs p 0) → up_to f 0 (length xs) ≡ xs
up_to_all f xs h = up_to_list xs 0 f 0 (λ p l. ap f (zero-add p) ∙ h p l)

-- byte k of slot i in the strips of a number of slots
pub strip_place : (count i k : ℕ) → i < count → k < 6
    → (i + k * count < 6 * count) × ((i + k * count) % count ≡ i) × ((i + k * count) / count ≡ k)
strip_place count i k l m =
    let some : 0 < count = omega arith in
    let most : k ≤ 5 = omega arith in
    let five : k * count ≤ 5 * count = mul-le-mul_right count most in
    (omega arith, add-mul-mod_self_right i k count ∙ mod-eq_of_lt l, add-mul-div_right i k some ∙ (rw (div-eq_of_lt l, zero-add)))

-- slot and byte of a place in them
pub place_strip : (count p : ℕ) → p < 6 * count → (p % count < count) × (p / count < 6) × (p % count + p / count * count ≡ p)
place_strip count p l =
    let some : 0 < count = omega arith in
    (mod-lt p some, (div-lt_iff_lt-mul some).1 l, mod-add-div' p count)

module _ (step : ℕ) where
  pub length_strewn : (bs d : List ℕ) (at : ℕ) → length (strewn d at step bs) ≡ length d
  unfolding strewn
  length_strewn [] d at = refl
  length_strewn (b ∷ bs) d at = length_strewn bs (set d at b) (at + step) ∙ length-set d at b

  -- the places between those that are written stay
  strewn_other : (bs d : List ℕ) (at p : ℕ) → ((k : ℕ) → k < length bs → p ≡ at + k * step → ⊥)
      → get_or (strewn d at step bs) p 0 ≡ get_or d p 0
  unfolding strewn
  strewn_other [] d at p h = refl
  strewn_other (b ∷ bs) d at p h =
      strewn_other bs (set d at b) (at + step) p (λ k l e. h (suc k) (omega arith) (e ∙ (rw suc-mul (omega arith))))
      ∙ get_or-set_other d at p b 0 (λ e. h 0 (omega arith) (e ∙ (rw zero-mul (omega arith))))

  -- byte k stands at its place
  strewn_at : 0 < step → (bs d : List ℕ) (at k : ℕ) → k < length bs → ((j : ℕ) → j < length bs → at + j * step < length d)
      → get_or (strewn d at step bs) (at + k * step) 0 ≡ get_or bs k 0
  unfolding strewn
  strewn_at z [] d at k l h = absurd (not-suc-le-zero l)
  strewn_at z (b ∷ bs) d at zero l h =
      let here : at + 0 * step ≡ at = rw zero-mul (omega arith) in
      let inside : at < length d = rw here at (h 0 l) in
      rw here (strewn_other bs (set d at b) (at + step) at (λ k m e. absurd (omega arith)) ∙ get_or-set_same d at b 0 inside)
  strewn_at z (b ∷ bs) d at (suc k) l h =
      let shift : (j : ℕ) → at + suc j * step ≡ at + step + j * step = λ j. rw suc-mul (omega arith) in
      rw (shift k) (strewn_at z bs (set d at b) (at + step) k (le_of_suc-le-suc l)
      (λ j m. rw length-set (rw (shift j) at (h (suc j) (omega arith)))))

-- a slot other than i is before i exactly when it is before i + 1
ltb_next : (s i : ℕ) → (s ≡ i → ⊥) → ltb s i ≡ ltb s (i + 1)
ltb_next s i h =
    ⊎_elim (λ e. e ∙ sym (lt-ltb s (i + 1) (omega (arith, ltb-true s i e))))
    (λ e. e ∙ sym (le-ltb s (i + 1) (⊎_elim (λ q. absurd (h (sym q))) (λ l. omega arith) (eq-or-lt_of_le (ltb-false s i e)))))
    (either (ltb s i))

-- a buffer d in which the places of the first i slots have what f gives
unfoldable pub filled_to : (ℕ → ℕ) → (ℕ → ℕ) → List ℕ → ℕ → List ℕ
filled_to slot f d i = up_to (λ p. cond (ltb (slot p) i) (f p) (get_or d p 0)) 0 (length d)

-- a buffer d whose place p belongs to slot `slot p`, of which f p is to stand there
module _ (slot f : ℕ → ℕ) (d : List ℕ) where
  pub length_filled : (i : ℕ) → length (filled_to slot f d i) ≡ length d
  unfolding filled_to
  length_filled i = length_up_to (λ p. cond (ltb (slot p) i) (f p) (get_or d p 0)) 0 (length d)

  filled_at_lem : (i p : ℕ) → p < length d → get_or (filled_to slot f d i) p 0 ≡ cond (ltb (slot p) i) (f p) (get_or d p 0)
  unfolding filled_to
  filled_at_lem i p l = up_to_at (λ p. cond (ltb (slot p) i) (f p) (get_or d p 0)) (length d) p l

  -- what stands at a place of a slot that is written
  pub filled_before : (i p : ℕ) → p < length d → slot p < i → get_or (filled_to slot f d i) p 0 ≡ f p
  filled_before i p l m = filled_at_lem i p l ∙ (rw (lt-ltb (slot p) i m))

  -- nothing is written yet
  pub filled_none : d ≡ filled_to slot f d 0
  unfolding filled_to
  filled_none = sym (up_to_all (λ p. cond (ltb (slot p) 0) (f p) (get_or d p 0)) d (λ p l. rw (le-ltb (slot p) 0 zero-le)))

  -- all slots are written
  pub filled_all : (i : ℕ) → ((p : ℕ) → p < length d → slot p < i) → filled_to slot f d i ≡ up_to f 0 (length d)
  filled_all i h =
      sym (ap (up_to f 0) (sym (length_filled i)) ∙ up_to_all f (filled_to slot f d i)
      (λ p l. let m : p < length d = rw length_filled at l in sym (filled_before i p m (h p m))))

  -- slot i is written, whose bytes stand step apart from place at on
  pub filled_next : (i at step : ℕ) (bs : List ℕ) → 0 < step → (byte : ℕ → ℕ)
      → ((k : ℕ) → k < length bs → (at + k * step < length d) × (slot (at + k * step) ≡ i))
      → ((p : ℕ) → p < length d → slot p ≡ i → (byte p < length bs) × (p ≡ at + byte p * step) × (get_or bs (byte p) 0 ≡ f p))
      → strewn (filled_to slot f d i) at step bs ≡ filled_to slot f d (i + 1)
  filled_next i at step bs z byte places slots =
      ext_get_or 0 (strewn (filled_to slot f d i) at step bs) (filled_to slot f d (i + 1))
      (length_strewn step bs (filled_to slot f d i) at ∙ length_filled i ∙ sym (length_filled (i + 1)))
      (λ p l. let m : p < length d = rw (
        length_strewn step bs (filled_to slot f d i) at,
        length_filled i,
      ) at l in ⊎_elim (here p m) (there p m) (either (eqb (slot p) i)))
    where
      here : (p : ℕ) → p < length d → eqb (slot p) i ≡ true
          → get_or (strewn (filled_to slot f d i) at step bs) p 0 ≡ get_or (filled_to slot f d (i + 1)) p 0
      here p m e =
          let s : slot p ≡ i = eqb-true (slot p) i e in
          let (b, q, g) = slots p m s in
          ap (λ (x : ℕ). get_or (strewn (filled_to slot f d i) at step bs) x 0) q
          ∙ strewn_at step z bs (filled_to slot f d i) at (byte p) b (λ j n. rw (length_filled i) (places j n).0) ∙ g
          ∙ sym (filled_before (i + 1) p m (omega arith))

      there : (p : ℕ) → p < length d → eqb (slot p) i ≡ false
          → get_or (strewn (filled_to slot f d i) at step bs) p 0 ≡ get_or (filled_to slot f d (i + 1)) p 0
      there p m e =
          let s = eqb-false (slot p) i e in
          strewn_other step bs (filled_to slot f d i) at p (λ k n q. s (ap slot q ∙ (places k n).1)) ∙ filled_at_lem i p m
          ∙ ap (λ (t : Bool). cond t (f p) (get_or d p 0)) (ltb_next (slot p) i s) ∙ sym (filled_at_lem (i + 1) p m)
