-- `play`: by what the bytes are, and whether the lengths are right.
use mathlib.Core.Path.{◌≡◌, sym, ap, ◌∙◌}
use Rattle.std.specs.Result.{is_ok}
use Rattle.std.proofs.lemmas.Result.{err_from_is_err_and}
use borrow.Author.Rules.{rules}
use Rattle.play.specs.declared.Unplayed.TheVariants.{Lengths}
use Rattle.play.proofs.Ending.{found_lines, few_answers, not_opened, played, no_log, each}
use Rattle.play.proofs.play.Goals as goal

pub returns-in_err-found-clause-told : goal.returns-in_err-found-clause-told
returns-in_err-found-clause-told c =
    let (r, is, same) = err_from_is_err_and c.from_residual.result c.from_residual.ensures.1 in
    rw (is, same) (each _ _ _ (no_log _ _ _ c.in_err-found.ensures))

pub returns-then-answers-found-clause-told : goal.returns-then-answers-found-clause-told
returns-then-answers-found-clause-told c =
    each _ _ _ (few_answers _ _ c.in_ok-found.ensures _ _ c.if-answers-found.true)

pub returns-in_err-map_err-clause-told : goal.returns-in_err-map_err-clause-told
returns-in_err-map_err-clause-told c =
    let (r, is, same) = err_from_is_err_and c.from_residual-in_err-map_err.result c.from_residual-in_err-map_err.ensures.1 in
    let long : c.in_err-map_err.field-0.0 ≡ Lengths = search rules in
    rw (is, same, long) (each _ _ _ (not_opened _ _ c.in_ok-found.ensures _ _ c.open.result
    c.open.ensures.told.0 (sym c.map_err.ensures.variant ∙ ap is_ok c.in_err-map_err.was)
    c.open.ensures.told.1))

pub fill_all-requires : goal.fill_all-requires
fill_all-requires c = c.if-answers-found.false ∙ found_lines _ _ c.in_ok-found.ensures

pub returns-clause-told : goal.returns-clause-told
returns-clause-told c =
    each _ _ _ (played _ _ c.in_ok-found.ensures _
    c.args.answers.now c.open.result c.open.ensures.told.0
    (sym c.map_err.ensures.variant ∙ ap is_ok c.in_ok-map_err.was) c.open.ensures.told.1
    c.if-answers-found.false c.fill_all.ensures.told)
