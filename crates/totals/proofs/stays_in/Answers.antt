-- `stays_in`: 18, 19, or the totals after the last day.
use mathlib.Core.Path.{sym, ap, ◌∙◌}
use Prim.Native.Nat.{◌/◌}
use native.Mathlib.Omega.{arith}
use borrow.Author.Tests.{eqb-true}
use lib.ListN.{length}
use Rattle.base.proofs.Logic.{passed}
use Rattle.file.specs.declared.Figures.{Figures}
use Rattle.totals.specs.Stays.{list_tests}
use Rattle.totals.proofs.Adding.{before_all}
use Rattle.file.proofs.Answers.{figures_are, some_interval, tabled}
use Rattle.totals.proofs.Answers.{refused-18, refused-19, done}
use Rattle.totals.proofs.stays_in.Goals as goal

pub returns-then-not-lists_fit : goal.returns-then-not-lists_fit
returns-then-not-lists_fit c = refused-18 _ _ c.requires _ _ (sym c.lists_fit.ensures ∙ c.if-not-lists_fit.true)

pub returns-then-not-pairs_fit : goal.returns-then-not-pairs_fit
returns-then-not-pairs_fit c =
    refused-19 _ _ c.requires _ _
    (sym c.lists_fit.ensures ∙ c.if-not-lists_fit.false)
    (sym c.pairs_fit.ensures ∙ c.if-not-pairs_fit.true)

pub nonzero_div-n : goal.nonzero_div-n
nonzero_div-n c = omega (arith, some_interval _ _ c.requires)

pub total_days-requires : goal.total_days-requires
total_days-requires c =
    let a = c.args in
    let lists-ok = sym c.lists_fit.ensures ∙ c.if-not-lists_fit.false in
    (tabled _ _ c.requires, eqb-true _ _ (passed (list_tests a.pairs.now (length a.totals.now)) lists-ok 2))

pub returns : goal.returns
returns c =
    let a = c.args in
    let pairs-ok = sym c.pairs_fit.ensures ∙ c.if-not-pairs_fit.false in
    let lists-ok = sym c.lists_fit.ensures ∙ c.if-not-lists_fit.false in
    let per-day = ap (λ (f : Figures). 1440 / f.interval) (sym (figures_are a.file.now a.g c.requires)) in
    let d = done a.file.now a.g c.requires a.pairs.now a.totals.now lists-ok pairs-ok in
    (d.0, c.total_days.ensures ∙ before_all a.file.now _ a.pairs.now a.g.days per-day pairs-ok ∙ d.1)
