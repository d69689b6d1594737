-- A register read and an agreed call, where head and lengths are right.
use mathlib.Core.Path.{◌≡◌, sym, ◌∙◌}
use mathlib.Core.Bool.{true, false}
use mathlib.Core.Logic.{⊎_elim}
use Prim.Native.Nat.{ℕ, suc, ◌<◌, ◌≤◌}
use native.Mathlib.Omega.{arith}
use lib.Dec.{leb, ltb}
use lib.ListN.{length, get_or}
use borrow.Author.Tests.{le-leb, lt-leb, ltb-true, ltb-false, le-ltb, ne_eqb}
use Rattle.base.proofs.Logic.{either}
use Rattle.rules.specs.declared.Head.{Head}
use Rattle.rules.specs.Opening.{head_ok, slot_count, Agreed}
use Rattle.book.specs.Arguments.{argument_rules}
use Rattle.book.specs.Cells.{Reads, reads_fit, agreed_fits}
use Rattle.book.specs.Filling.{against_boundary, against_agreed, register_answer, agree_answer}
use Rattle.book.specs.Inner.Numbers.{number_answer, read_answer}
use Rattle.book.specs.Contents.{dial_read, read_at}
use Rattle.book.proofs.Fits.{long}

-- past its own rules it is what its cell says
pub number_sound : (a : Agreed) (place version number : ℕ) → place < length a.values → (version ≡ 0 → ⊥) → number ≤ 99_999_999
    → number_answer a place version number
    ≡ against_agreed (get_or a.versions place 0) (get_or a.values place 0) version number
unfolding number_answer
number_sound a place version number inside some small = rw (lt-leb _ _ inside, ne_eqb _ _ some, le-ltb _ _ small)

pub read_sound : (r : Reads) (boundary version reading width : ℕ) → boundary < length r.readings → (version ≡ 0 → ⊥)
    → reading ≤ 99_999_999 → width ≤ 9999
    → read_answer r boundary version reading width
    ≡ against_boundary (get_or r.read_versions boundary 0) (read_at r boundary) version (dial_read reading width)
unfolding read_answer
read_sound r boundary version reading width inside some small narrow =
    rw (lt-leb _ _ inside, ne_eqb _ _ some, le-ltb _ _ small, le-ltb _ _ narrow)

below : (m n : ℕ) → ltb m n ≡ leb (suc m) n
below m n = ⊎_elim (λ e. e ∙ sym (over (ltb-true m n e))) (λ e. e ∙ sym (under (ltb-false m n e))) (either (ltb m n))
  where
    over : m < n → leb (suc m) n ≡ true
    over lt = le-leb (suc m) n (omega arith)

    under : n ≤ m → leb (suc m) n ≡ false
    under le = lt-leb (suc m) n (omega arith)

reads_long : (h : Head) (r : Reads) → reads_fit h r ≡ true → length r.readings ≡ suc h.days
unfolding reads_fit
reads_long h r fit = long _ _ fit 0

agreed_long : (h : Head) (a : Agreed) → agreed_fits h a ≡ true → length a.values ≡ slot_count h
unfolding agreed_fits
agreed_long h a fit = long _ _ fit 0

module _ (h : Head) (ok : head_ok h ≡ true) where
  pub register_read : (r : Reads) (boundary version reading width : ℕ) → reads_fit h r ≡ true
      → register_answer h r boundary version reading width ≡ read_answer r boundary version reading width
  unfolding register_answer argument_rules read_answer
  register_read r boundary version reading width fit = rw (ok, fit, reads_long h r fit, below h.days boundary)

  pub agree_number : (a : Agreed) (slot version value : ℕ) → agreed_fits h a ≡ true
      → agree_answer h a slot version value ≡ number_answer a slot version value
  unfolding agree_answer argument_rules number_answer
  agree_number a slot version value fit = rw (ok, fit, agreed_long h a fit)
