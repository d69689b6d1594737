-- `explain`: a slot that is not refused is one of the book's.
use mathlib.Core.Path.{sym, ◌∙◌}
use native.Mathlib.Omega.{arith}
use Rattle.explain.proofs.explain.Goals as goal

pub explain_fitted-requires : goal.explain_fitted-requires
explain_fitted-requires c = (
  sym c.head_ok.ensures ∙ c.if-not-head_ok.false,
  sym c.lists_fit.ensures ∙ c.if-not-lists_fit.false,
  omega (arith, c.slot_count.ensures, c.if-slot_count-slot.false),
)
