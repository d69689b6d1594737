-- `sawmauve_read`: nine places hold the figures of an accepted file; a refused file leaves them, and so does a list of another length.
use mathlib.Core.Path.{refl, sym, ◌∙◌}
use borrow.Author.Tests.{eq-eqb, ne_eqb}
use Rattle.host.specs.Codes.{read_answer, read_after}
use Rattle.host.proofs.files.sawmauve_read.Goals as goal

pub returns-then-figures-ne9 : goal.returns-then-figures-ne9
unfolding read_answer read_after
returns-then-figures-ne9 c = rw (ne_eqb _ _ c.if-figures-ne9.true) (c.number.ensures, refl)

pub returns-in-Ok : goal.returns-in-Ok
unfolding read_answer read_after
returns-in-Ok c =
    rw (eq-eqb _ _ c.if-figures-ne9.false, sym c.read.ensures ∙ c.in-Ok.is)
    (refl, c.copy_from_slice.ensures.after)

pub returns-in-Err : goal.returns-in-Err
unfolding read_answer read_after
returns-in-Err c =
    rw (
      eq-eqb _ _ c.if-figures-ne9.false,
      sym c.read.ensures ∙ c.in-Err.is,
    )
    (c.number-in-Err.ensures, refl)
