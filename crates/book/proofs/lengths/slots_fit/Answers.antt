-- `lengths::slots_fit`: N long.
use mathlib.Core.Path.{sym}
use mathlib.Core.Bool.{and-true}
use borrow.Author.Tests.{eq-eqb, ne_eqb}
use Rattle.book.specs.Cells.{all_long}
use Rattle.book.proofs.lengths.slots_fit.Goals as goal

pub returns-then-values-n : goal.returns-then-values-n
unfolding all_long
returns-then-values-n c = simp (sym c.slot_count-n.ensures, ne_eqb _ _ c.if-values-n.true)

pub returns-then-versions-n : goal.returns-then-versions-n
unfolding all_long
returns-then-versions-n c = simp (sym c.slot_count-n.ensures, eq-eqb _ _ c.if-values-n.false, ne_eqb _ _ c.if-versions-n.true)

pub returns : goal.returns
unfolding all_long
returns c = simp (sym c.slot_count-n.ensures, eq-eqb _ _ c.if-values-n.false, eq-eqb _ _ c.if-versions-n.false, and-true)
