-- Each case of the export that explains a slot.
use mathlib.Core.Bool.{Bool, true, false, cond, not}
use mathlib.Core.List.{List}
use mathlib.Core.Logic.{⊎_elim}
use mathlib.Core.Path.{◌≡◌, refl, sym, ap, ◌∙◌}
use Prim.Native.Nat.{ℕ}
use native.Mathlib.Omega.{arith}
use borrow.Author.Tests.{eq-eqb, ne_eqb}
use lib.Dec.{leb, eqb}
use lib.ListN.{length}
use Rattle.std.specs.Prelude.{Result, Ok, Err}
use Rattle.base.specs.declared.Refusal.{Refusal}
use Rattle.base.specs.declared.Refusal.TheVariants.{WrongLength, NoPlace, ImpossibleCell}
use Rattle.base.specs.Refusals.{number_of, code_of}
use Rattle.base.proofs.Logic.{either}
use Rattle.rules.specs.declared.Head.{Head}
use Rattle.rules.specs.Opening.{head_ok, slot_count}
use Rattle.book.specs.Cells.{Book, book_fits, book_ok}
use Rattle.explain.specs.declared.Explanation.{Explanation}
use Rattle.explain.specs.Explain.{explanation_of, explain_answer}
use Rattle.questions.specs.Follow.{fields_of, explain_code, fields_after}

-- the tests behind the head's, in their order: lists, slot, cells
abbrev answer : {X : Type 0} → Bool → Bool → Bool → X → Result X Refusal
answer b c d x = cond b (Err WrongLength) (cond c (Err NoPlace) (cond d (Err ImpossibleCell) (Ok x)))

abbrev code : Bool → Bool → Bool → ℕ
code b c d = code_of (answer {X = Unit {0}} b c d tt)

module _ (x : Explanation) where
  broken : (f held : List ℕ) (k : Refusal) (b c d : Bool) → answer b c d x ≡ Err k
      → (number_of k ≡ code b c d) × (held ≡ cond (eqb (code b c d) 0) f held)
  broken f held k true c d e = let z : k ≡ WrongLength = cc in (rw z, refl)
  broken f held k false true d e = let z : k ≡ NoPlace = cc in (rw z, refl)
  broken f held k false false true e = let z : k ≡ ImpossibleCell = cc in (rw z, refl)
  broken f held k false false false e = let z : ◌≡◌ {A = ℕ} 0 1 = cc in absurd (omega arith)

  whole : (y : Explanation) (b c d : Bool) → answer b c d x ≡ Ok y → (0 ≡ code b c d) × (x ≡ y)
  whole y true c d e = let z : ◌≡◌ {A = ℕ} 0 1 = cc in absurd (omega arith)
  whole y false true d e = let z : ◌≡◌ {A = ℕ} 0 1 = cc in absurd (omega arith)
  whole y false false true e = let z : ◌≡◌ {A = ℕ} 0 1 = cc in absurd (omega arith)
  whole y false false false e = (refl, cc)

module _ (h : Head) (b : Book) (slot : ℕ) (held : List ℕ) where
  left : (n : ℕ) → explain_code h b slot held ≡ n → (n ≡ 0 → ⊥) → (n ≡ explain_code h b slot held) × (held ≡ fields_after h b slot held)
  unfolding fields_after
  left n p z = (sym p, rw (p, ne_eqb n 0 z))

  pub refused_head : head_ok h ≡ false → (1 ≡ explain_code h b slot held) × (held ≡ fields_after h b slot held)
  unfolding explain_code
  refused_head p = left 1 (rw p) (λ z. omega arith)

  module _ (good : head_ok h ≡ true) where
    -- a list of fields that is not 34 long
    pub refused_fields : (length held ≡ 34 → ⊥) → (2 ≡ explain_code h b slot held) × (held ≡ fields_after h b slot held)
    unfolding explain_code
    refused_fields l =
        left 2 (rw (good, ne_eqb _ _ l) (⊎_elim (λ t. rw t) (λ t. rw t) (either (book_fits h b)))) (λ z. omega arith)

    module _ (l : length held ≡ 34) where
      code_is : explain_code h b slot held ≡ code (not (book_fits h b)) (leb (slot_count h) slot) (not (book_ok h b))
      unfolding explain_code
      code_is = rw (good, eq-eqb _ _ l)

      answer_is : explain_answer h b slot
          ≡ answer (not (book_fits h b)) (leb (slot_count h) slot) (not (book_ok h b)) (explanation_of h b.cells slot)
      unfolding explain_answer
      answer_is = rw good

      pub refused_rest : (k : Refusal) → Err k ≡ explain_answer h b slot
          → (number_of k ≡ explain_code h b slot held) × (held ≡ fields_after h b slot held)
      unfolding fields_after
      refused_rest k e = rw code_is (broken _ _ held k _ _ _ (sym (e ∙ answer_is)))

      pub explained : (y : Explanation) → Ok y ≡ explain_answer h b slot
          → (0 ≡ explain_code h b slot held) × (fields_of y ≡ fields_after h b slot held)
      unfolding fields_after
      explained y e =
          let w = whole _ y _ _ _ (sym (e ∙ answer_is)) in
          rw code_is (w.0, rw (← w.0) (ap fields_of (sym w.1)))
