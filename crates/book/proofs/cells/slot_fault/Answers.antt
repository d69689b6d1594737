-- `cells::slot_fault` is `slot_fault`: beside version 0 a status over 7 is one that is not 0.
use mathlib.Core.Bool.{not, ◌||◌, or-true, or-false}
use mathlib.Core.Logic.{⊎_elim}
use mathlib.Core.Path.{◌≡◌, sym}
use Prim.Native.Nat.{ℕ}
use lib.Dec.{ltb, eqb}
use borrow.Author.Tests.{eq-eqb, ne_eqb, eqb-true}
use Rattle.base.proofs.Logic.{either}
use Rattle.book.specs.Cells.{slot_fault}
use Rattle.book.proofs.cells.slot_fault.Goals as goal

over : (status : ℕ) → (ltb 7 status || not (eqb status 0)) ≡ not (eqb status 0)
over status = ⊎_elim (λ t. rw (eqb-true status 0 t)) (λ f. rw f (or-true (ltb 7 status))) (either (eqb status 0))

pub returns-then-version-ne0 : goal.returns-then-version-ne0
unfolding slot_fault
returns-then-version-ne0 c = rw (ne_eqb _ _ c.if-version-ne0.true, or-false)

pub returns-then-value-ne0 : goal.returns-then-value-ne0
unfolding slot_fault
returns-then-value-ne0 c = rw (eq-eqb _ _ c.if-version-ne0.false, ne_eqb _ _ c.if-value-ne0.true, or-true)

pub returns : goal.returns
unfolding slot_fault
returns c = rw (eq-eqb _ _ c.if-version-ne0.false, eq-eqb _ _ c.if-value-ne0.false) (sym (over c.args.status))
