-- Texts put into a buffer one behind another, as far as it reaches.
use mathlib.Core.List.{List, [], ◌∷◌, ◌++◌}
use mathlib.Core.Logic.{⊎_elim}
use mathlib.Core.Path.{◌≡◌, refl, sym, ap, ◌∙◌}
use Prim.Native.Nat.{ℕ, min, zero, suc, ◌+◌, ◌-◌, ◌/◌, ◌%◌, ◌^◌, ◌≤◌, ◌<◌}
use native.Mathlib.Nat.{add-zero, add-suc, add_assoc, suc-add, ne_of_gt}
use native.Mathlib.Numerals.{add-one}
use native.Mathlib.Omega.{arith}
use borrow.Author.Tests.{le-ltb, ltb-true, ltb-false}
use lib.Dec.{ltb}
use lib.ListN.{length, take, drop, get_or, set, length-append}
use lib.Seq.{take-suc, length-take-le, set_comm, set_out, sets-eq, length-sets}
use Rattle.base.proofs.Logic.{either}
use Rattle.line.specs.Line.{digits}
use Rattle.line.proofs.Digits.{length_digits}
use Rattle.line.specs.Inner.Writing.{capped, stored, Added}

-- the highest number
abbrev top : ℕ
top = 18_446_744_073_709_551_615

-- ---- Places

pub capped_low : (n : ℕ) → n < 2 ^ 64 → capped n ≡ n
unfolding capped
capped_low n l = ⊎_elim (λ e. rw e) (λ e. rw e (omega (arith, ltb-false n top e))) (either (ltb n top))

pub capped_high : (n : ℕ) → top ≤ n → capped n ≡ top
unfolding capped
capped_high n l = rw (le-ltb n top l)

-- what `saturating_add` gives
pub capped_min : (n : ℕ) → min n (2 ^ 64 - 1) ≡ capped n
capped_min n =
    ⊎_elim (λ e. omega (arith, ltb-true n top e, capped_low n (omega (arith, ltb-true n top e))))
    (λ e. omega (arith, capped_high n (ltb-false n top e), ltb-false n top e)) (either (ltb n top))

capped_next : (a b : ℕ) → capped (capped a + b) ≡ capped (a + b)
capped_next a b =
    ⊎_elim (λ e. ap (λ (x : ℕ). capped (x + b)) (capped_low a (omega (arith, ltb-true a top e))))
    (λ e.
    let h : top ≤ a = ltb-false a top e in
    ap (λ (x : ℕ). capped (x + b)) (capped_high a h) ∙ capped_high (top + b) (omega arith) ∙ sym (capped_high (a + b) (omega arith)))
    (either (ltb a top))

-- ---- What is stored

pub length_stored : (d : List ℕ) (at : ℕ) (s : List ℕ) → length (stored d at s) ≡ length d
unfolding stored
length_stored d at s = length-sets d at s

stored_out : (s d : List ℕ) (at : ℕ) → length d ≤ at → stored d at s ≡ d
unfolding stored
stored_out [] d at l = refl
stored_out (x ∷ s) d at l = rw (set_out d at x l) (stored_out s d (suc at) (omega arith))

stored_append : (s t d : List ℕ) (at : ℕ) → stored d at (s ++ t) ≡ stored (stored d at s) (at + length s) t
unfolding stored
stored_append [] t d at = rw (add-zero at)
stored_append (x ∷ s) t d at =
    stored_append s t (set d at x) (suc at)
    ∙ ap (λ (k : ℕ). stored (stored (set d at x) (suc at) s) k t) (suc-add at (length s) ∙ sym (add-suc at (length s)))

-- a byte behind a text may be stored before it
stored_set : (s d : List ℕ) (at i b : ℕ) → at + length s ≤ i → stored (set d i b) at s ≡ set (stored d at s) i b
unfolding stored
stored_set [] d at i b l = refl
stored_set (x ∷ s) d at i b l =
    let after : at < i = omega arith in
    let rest : suc at + length s ≤ i = omega arith in
    ap (λ (y : List ℕ). stored y (suc at) s) (set_comm d i at b x (ne_of_gt after)) ∙ stored_set s (set d at x) (suc at) i b rest

-- a place that is capped lies behind the buffer
stored_capped : (d : List ℕ) (n : ℕ) (t : List ℕ) → length d < 2 ^ 64 → stored d (capped n) t ≡ stored d n t
stored_capped d n t fits =
    ⊎_elim (λ e. ap (λ (x : ℕ). stored d x t) (capped_low n (omega (arith, ltb-true n top e))))
    (λ e.
    let h : top ≤ n = ltb-false n top e in
    ap (λ (x : ℕ). stored d x t) (capped_high n h) ∙ stored_out t d top (omega arith) ∙ sym (stored_out t d n (omega arith)))
    (either (ltb n top))

-- where the buffer reaches far enough, all of it stands there
pub stored_all : (s d : List ℕ) → length s ≤ length d → stored d 0 s ≡ s ++ drop (length s) d
unfolding stored
stored_all s d l = sets-eq s d 0 (omega arith) ∙ rw zero_plus
  where
    zero_plus : 0 + length s ≡ length s
    zero_plus = omega arith

-- ---- Texts one behind another

pub nothing : (d : List ℕ) (at : ℕ) → length d < 2 ^ 64 → at < 2 ^ 64 → Added d at d at []
unfolding stored
nothing d at fits l = record { fits = fits; next = sym (rw (add-zero at) (capped_low at l)); has = refl }

pub then : {a b c s t : List ℕ} {i j k : ℕ} → Added a i b j s → Added b j c k t → Added a i c k (s ++ t)
then {a} {b} {c} {s} {t} {i} {j} {k} p q = record {
  fits = p.fits;
  next =
      q.next ∙ ap (λ (x : ℕ). capped (x + length t)) p.next ∙ capped_next (i + length s) (length t)
      ∙ ap capped (add_assoc i (length s) (length t) ∙ ap (λ (x : ℕ). i + x) (sym (length-append s t)));
  has =
      let long : length (stored a i s) < 2 ^ 64 = omega (arith, length_stored a i s, p.fits) in
      q.has ∙ ap (λ (x : List ℕ). stored x j t) p.has ∙ ap (λ (x : ℕ). stored (stored a i s) x t) p.next
      ∙ stored_capped (stored a i s) (i + length s) t long
      ∙ sym (stored_append s t a i);
}

-- an equal text
pub same : {a b s t : List ℕ} {i r : ℕ} → s ≡ t → Added a i b r s → Added a i b r t
same e p = rw (← e) p

-- ---- What a turn of a loop adds

pub text_none : (d : List ℕ) (at : ℕ) (text : List ℕ) → d ≡ stored d at (take 0 text)
unfolding stored
text_none d at text = refl

pub text_more : (d out next text : List ℕ) (at i : ℕ) → i < length text → out ≡ stored d at (take i text)
    → next ≡ set out (at + i) (get_or text i 0)
    → next ≡ stored d at (take (i + 1) text)
unfolding stored
text_more d out next text at i l e n =
    let size : length (take i text) ≡ i = length-take-le i text (omega arith) in
    n ∙ ap (λ (x : List ℕ). set x (at + i) (get_or text i 0)) e
    ∙ sym (rw (add-one i, take-suc text i 0 l)
    (stored_append (take i text) (get_or text i 0 ∷ []) d at ∙ ap (λ (k : ℕ). set (stored d at (take i text)) (at + k) (get_or text i 0))
    size))

pub digits_less : (whole out next : List ℕ) (at j rest : ℕ) → 0 < j → stored out at (digits j rest) ≡ whole
    → next ≡ set out (at + (j - 1)) (48 + rest % 10)
    → stored next at (digits (j - 1) (rest / 10)) ≡ whole
unfolding digits stored
digits_less whole out next at zero rest l e n = absurd (omega arith)
digits_less whole out next at (suc j) rest l e n =
    let size : length (digits j (rest / 10)) ≡ j = length_digits j (rest / 10) in
    let one : suc j - 1 ≡ j = omega arith in
    rw (one, n, one)
    (stored_set (digits j (rest / 10)) out at (at + j) (48 + rest % 10) (omega arith)
    ∙ ap (λ (k : ℕ). set (stored out at (digits j (rest / 10))) (at + k) (48 + rest % 10)) (sym size)
    ∙ sym (stored_append (digits j (rest / 10)) ((48 + rest % 10) ∷ []) out at)
    ∙ e)

pub digits_none : (out : List ℕ) (at rest : ℕ) → stored out at (digits 0 rest) ≡ out
unfolding digits stored
digits_none out at rest = refl
