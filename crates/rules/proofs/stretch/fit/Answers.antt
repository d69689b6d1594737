-- `stretch::fit` scales an S slot of a scaled span.
use mathlib.Core.Bool.{true, false, and-false}
use mathlib.Core.Path.{◌≡◌, refl, sym, ◌∙◌}
use borrow.Author.Tests.{eq-eqb, ne_eqb}
use Rattle.rules.specs.Spans.{is_s}
use Rattle.rules.specs.Inner.Stretches.{fit_outcome, fit_next}
use Rattle.rules.proofs.stretch.fit.Goals as goal

pub returns-then-by-eq0 : goal.returns-then-by-eq0
unfolding fit_outcome fit_next
returns-then-by-eq0 c =
    let z : c.args.here.by.whole ≡ 0 = c.if-by-eq0.true in
    rw (eq-eqb _ _ z, and-false (is_s c.args.slot.quality)) (refl, refl)

pub returns-then-not-is_substituted : goal.returns-then-not-is_substituted
unfolding fit_outcome fit_next
returns-then-not-is_substituted c =
    let q : is_s c.args.slot.quality ≡ false = sym c.is_substituted.ensures ∙ c.if-not-is_substituted.true in
    rw q (refl, refl)

pub returns : goal.returns
unfolding fit_outcome fit_next
returns c =
    let q : is_s c.args.slot.quality ≡ true = sym c.is_substituted.ensures
    ∙ c.if-not-is_substituted.false in
    rw (q, ne_eqb _ _ c.if-by-eq0.false, c.scale-scaled.ensures) (refl, refl)
