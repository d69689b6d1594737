-- `lengths::agreed_fit`: N long.
use mathlib.Core.Path.{sym}
use mathlib.Core.Bool.{and-true}
use borrow.Author.Tests.{eq-eqb, ne_eqb}
use Rattle.book.specs.Cells.{all_long}
use Rattle.book.proofs.lengths.agreed_fit.Goals as goal

pub returns-then-agreed-n : goal.returns-then-agreed-n
unfolding all_long
returns-then-agreed-n c = simp (sym c.slot_count-n.ensures, ne_eqb _ _ c.if-agreed-n.true)

pub returns : goal.returns
unfolding all_long
returns c = simp (sym c.slot_count-n.ensures, eq-eqb _ _ c.if-agreed-n.false, and-true)
