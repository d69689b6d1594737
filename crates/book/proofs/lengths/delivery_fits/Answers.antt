-- `lengths::delivery_fits` asks for the lists of slots and the counts.
use mathlib.Core.Path.{sym, ◌∙◌}
use Rattle.book.proofs.lengths.delivery_fits.Goals as goal

pub returns-then-not-slots_fit : goal.returns-then-not-slots_fit
returns-then-not-slots_fit c = rw (sym c.slots_fit.ensures ∙ c.if-not-slots_fit.true)

pub returns : goal.returns
returns c = rw (sym c.slots_fit.ensures ∙ c.if-not-slots_fit.false) c.days_fit.ensures
