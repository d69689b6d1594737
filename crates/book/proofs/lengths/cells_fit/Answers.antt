-- `lengths::cells_fit` asks for all four kinds of lists.
use mathlib.Core.Path.{sym, ◌∙◌}
use mathlib.Core.Bool.{and-true}
use Rattle.book.proofs.lengths.cells_fit.Goals as goal

pub returns-then-not-slots_fit : goal.returns-then-not-slots_fit
returns-then-not-slots_fit c = rw (sym c.slots_fit.ensures ∙ c.if-not-slots_fit.true)

pub returns-then-not-days_fit : goal.returns-then-not-days_fit
returns-then-not-days_fit c =
    rw (
      sym c.slots_fit.ensures ∙ c.if-not-slots_fit.false,
      sym c.days_fit.ensures ∙ c.if-not-days_fit.true,
    )

pub returns-then-not-reads_fit : goal.returns-then-not-reads_fit
returns-then-not-reads_fit c =
    rw (
      sym c.slots_fit.ensures ∙ c.if-not-slots_fit.false,
      sym c.days_fit.ensures ∙ c.if-not-days_fit.false,
      sym c.reads_fit.ensures ∙ c.if-not-reads_fit.true,
    )

pub returns : goal.returns
returns c =
    rw (
      sym c.slots_fit.ensures ∙ c.if-not-slots_fit.false,
      sym c.days_fit.ensures ∙ c.if-not-days_fit.false,
      sym c.reads_fit.ensures ∙ c.if-not-reads_fit.false,
      and-true,
    )
    c.agreed_fit.ensures
