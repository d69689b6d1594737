-- Fields and records that are told from an export's bytes.
use Rattle.std.specs.Prelude.{Option, None, Some}
use mathlib.Core.Bool.{Bool, true, false, false≢true}
use mathlib.Core.List.{List, [], ◌∷◌, ◌++◌, append_assoc, append-nil, append_cancel_left, head-eq_of_cons-eq, tail-eq_of_cons-eq}
use mathlib.Core.Logic.{⊎_elim}
use mathlib.Core.Path.{◌≡◌, refl, sym, ap, subst, ◌∙◌}
use Prim.Native.Nat.{ℕ, zero, suc, ◌+◌, ◌^◌, ◌≤◌, ◌<◌}
use native.Mathlib.Nat.{add-zero, add-suc, suc-add, eq-or-lt_of_le}
use native.Mathlib.Omega.{arith}
use borrow.Author.Tests.{eqb-true}
use lib.Dec.{eqb}
use Rattle.base.proofs.Logic.{and_parts}
use Rattle.line.specs.Line.{digits, decimal}
use Rattle.market.specs.declared.marks.Mark.{Mark}
use Rattle.market.specs.Fields.{field, fields, joined, kwh, date_field, has_code, method_of, reason_for, marked, same_code, alike}
use Rattle.market.specs.Records.{record300, record400}
use Rattle.market.proofs.Numerals.{decimal_split, code_split, kwh_split, date_split}

-- ---- Quality and method

-- what is written of a slot, or V: a code of two digits for S and F, and none for the others
abbrev pub Coded : Bool → Option ℕ → Type 0
Coded true None = ⊥
Coded true (Some code) = code ≤ 99
Coded false None = 0 ≤ 99
Coded false (Some code) = ⊥

abbrev pub Plainly : Mark → Type 0
Plainly m = Coded (has_code m.letter) m.code

pub same_mark : (p q : Mark) → p.letter ≡ q.letter → p.code ≡ q.code → p ≡ q
same_mark p q l c = λ t. record { letter = l t; code = c t }

code_same : (a b : Option ℕ) → same_code a b ≡ true → a ≡ b
code_same None None e = refl
code_same None (Some b) e = absurd (false≢true e)
code_same (Some a) None e = absurd (false≢true e)
code_same (Some a) (Some b) e = ap Some (eqb-true a b e)

pub alike_same : (p q : Mark) → alike p q ≡ true → p ≡ q
alike_same p q e =
    let parts = and_parts (eqb p.letter q.letter) (same_code p.code q.code) e in
    same_mark p q (eqb-true _ _ parts.0) (code_same _ _ parts.1)

-- the fields behind the letter
behind : Option ℕ → List ℕ → List ℕ
behind code reason = method_of code ++ (field (reason_for code reason) ++ field [])

behind_split : (coded : Bool) (a b : Option ℕ) → Coded coded a → Coded coded b → (reason r r' : List ℕ)
    → behind a reason ++ r ≡ behind b reason ++ r' → (a ≡ b) × (r ≡ r')
unfolding behind
behind_split true None b l m reason r r' e = absurd l
behind_split true (Some a) None l m reason r r' e = absurd m
behind_split true (Some a) (Some b) l m reason r r' e =
    let tail : List ℕ = field reason ++ field [] in
    let flat = sym (append_assoc (digits 2 a) tail r) ∙ e ∙ append_assoc (digits 2 b) tail r' in
    let parts = code_split a b l m (tail ++ r) (tail ++ r') flat in
    (ap Some parts.0, append_cancel_left tail r r' parts.1)
behind_split false None None l m reason r r' e = (refl, tail-eq_of_cons-eq (tail-eq_of_cons-eq e))
behind_split false None (Some b) l m reason r r' e = absurd m
behind_split false (Some a) b l m reason r r' e = absurd l

pub marked_split : (p q : Mark) → Plainly p → Plainly q → (reason r r' : List ℕ) → marked p reason ++ r ≡ marked q reason ++ r'
    → (p ≡ q) × (r ≡ r')
unfolding marked behind
marked_split p q a b reason r r' e =
    let letters : p.letter ≡ q.letter = head-eq_of_cons-eq (tail-eq_of_cons-eq e) in
    let rest : behind p.code reason ++ r ≡ behind q.code reason ++ r' = tail-eq_of_cons-eq (tail-eq_of_cons-eq e) in
    let other : Coded (has_code p.letter) q.code = subst (λ (l : ℕ). Coded (has_code l) q.code) (sym letters) b in
    let parts = behind_split (has_code p.letter) p.code q.code a other reason r r' rest in
    (same_mark p q letters parts.0, parts.1)

-- ---- A list of texts

pub joined_front : (f : ℕ → List ℕ) (a k : ℕ) → joined f a (suc k) ≡ f a ++ joined f (suc a) k
unfolding joined
joined_front f a zero = ap f (add-zero a) ∙ sym (append-nil (f a))
joined_front f a (suc k) =
    ap (λ (x : List ℕ). x ++ f (a + suc k)) (joined_front f a k)
    ∙ append_assoc (f a) (joined f (suc a) k) (f (a + suc k))
    ∙ ap (λ (i : ℕ). f a ++ (joined f (suc a) k ++ f i)) (add-suc a k ∙ sym (suc-add a k))

pub joined_nothing : (f g : ℕ → List ℕ) (a : ℕ) (r r' : List ℕ) → joined f a 0 ++ r ≡ joined g a 0 ++ r' → r ≡ r'
unfolding joined
joined_nothing f g a r r' e = e

-- what is told at each of the k places from a
pub joined_split : (f g : ℕ → List ℕ) (P : ℕ → Type 0) (a k : ℕ)
    → ((i : ℕ) → a ≤ i → i < a + k → (r r' : List ℕ) → f i ++ r ≡ g i ++ r' → P i × (r ≡ r'))
    → (r r' : List ℕ) → joined f a k ++ r ≡ joined g a k ++ r'
    → ((i : ℕ) → a ≤ i → i < a + k → P i) × (r ≡ r')
joined_split f g P a zero h r r' e = (λ i l m. absurd (omega arith), joined_nothing f g a r r' e)
joined_split f g P a (suc k) h r r' e =
    let flat = sym (ap (λ (x : List ℕ). x ++ r) (joined_front f a k) ∙ append_assoc (f a) (joined f (suc a) k) r) ∙ e
    ∙ ap (λ (x : List ℕ). x ++ r') (joined_front g a k) ∙ append_assoc (g a) (joined g (suc a) k) r' in
    let here = h a (omega arith) (omega arith) (joined f (suc a) k ++ r) (joined g (suc a) k ++ r') flat in
    let there = joined_split f g P (suc a) k (λ i l m. h i (omega arith) (omega arith)) r r' here.1 in (
      λ i l m.
          ⊎_elim (λ z. subst P z here.0)
          (λ n. there.0 i n (omega arith))
          (eq-or-lt_of_le l),
      there.1,
    )

-- ---- The records 300 and 400

-- what is told of two days
pub record Told300 (day day' : ℕ) (v w : ℕ → ℕ) (a n : ℕ) (m m' : Mark) (r r' : List ℕ) : Type 0 where
  pub day_same : day ≡ day'
  pub values : (i : ℕ) → a ≤ i → i < a + n → v i ≡ w i
  pub mark_same : m ≡ m'
  pub rest : r ≡ r'

pub split_300 : (reason created : List ℕ) (day day' : ℕ) → day < 36525 → day' < 36525 → (v w : ℕ → ℕ) (a n : ℕ)
    → ((i : ℕ) → v i < 2 ^ 32) → ((i : ℕ) → w i < 2 ^ 32) → (m m' : Mark) → Plainly m → Plainly m' → (r r' : List ℕ)
    → record300 reason created day v a n m ++ r ≡ record300 reason created day' w a n m' ++ r'
    → Told300 day day' v w a n m m' r r'
unfolding record300
split_300 reason created day day' l l' v w a n p p' m m' q q' r r' e =
    let end : List ℕ = fields (created ∷ [] ∷ []) in
    let f : ℕ → List ℕ = λ i. field (kwh (v i)) in
    let g : ℕ → List ℕ = λ i. field (kwh (w i)) in
    let inner = tail-eq_of_cons-eq (tail-eq_of_cons-eq (tail-eq_of_cons-eq (tail-eq_of_cons-eq e))) in
    let dated = sym (parts (date_field day) (joined f a n) (marked m reason) end r) ∙ inner
    ∙ parts (date_field day') (joined g a n) (marked m' reason) end r' in
    let date = date_split day day' l l' (joined f a n ++ (marked m reason ++ (end ++ r)))
    (joined g a n ++ (marked m' reason ++ (end ++ r'))) dated in
    let valued =
    joined_split f g (λ i. v i ≡ w i) a n (λ i j k s s' x. kwh_split (v i) (w i) (p i) (p' i) s s' (tail-eq_of_cons-eq x))
    (marked m reason ++ (end ++ r)) (marked m' reason ++ (end ++ r')) date.1 in
    let mark = marked_split m m' q q' reason (end ++ r) (end ++ r') valued.1 in
    record { day_same = date.0; values = valued.0; mark_same = mark.0; rest = append_cancel_left end r r' mark.1 }
  where
    parts : (a b c d r : List ℕ) → (a ++ (b ++ (c ++ d))) ++ r ≡ a ++ (b ++ (c ++ (d ++ r)))
    parts a b c d r = simp append_assoc

-- a run's last slot, and what stands behind it
pub split_ends : (reason : List ℕ) (s t e f : ℕ) → s < 2 ^ 32 → t < 2 ^ 32 → e < 2 ^ 32 → f < 2 ^ 32 → (m m' : Mark) (r r' : List ℕ)
    → record400 reason s e m ++ r ≡ record400 reason t f m' ++ r'
    → (e ≡ f) × (marked m reason ++ (fields [] ++ r) ≡ marked m' reason ++ (fields [] ++ r'))
unfolding record400 marked
split_ends reason s t e f l l' k k' m m' r r' x =
    let inner = tail-eq_of_cons-eq (tail-eq_of_cons-eq (tail-eq_of_cons-eq (tail-eq_of_cons-eq x))) in
    let flat = sym (parts (decimal s) (field (decimal e)) (marked m reason) (fields []) r) ∙ inner
    ∙ parts (decimal t) (field (decimal f)) (marked m' reason) (fields []) r' in
    let starts = decimal_split s t l l' 44 44 (omega arith) (omega arith) _ _ flat in
    let ends = decimal_split e f k k' 44 44 (omega arith) (omega arith) _ _ starts.1 in
    (ends.0, ap (λ (z : List ℕ). 44 ∷ z) ends.1)
  where
    parts : (a b c d r : List ℕ) → (a ++ (b ++ (c ++ d))) ++ r ≡ a ++ (b ++ (c ++ (d ++ r)))
    parts a b c d r = simp append_assoc
