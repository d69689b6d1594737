-- `reading::table_step`: by cases.
use mathlib.Core.Path.{sym}
use Rattle.std.proofs.lemmas.Result.{err_from_is_err_and}
use Rattle.play.specs.Inner.Steps.{table_step}
use Rattle.play.proofs.Stepping.{step_second, step_first}
use borrow.Author.Rules.{rules}
use Rattle.play.proofs.reading.table_step.Goals as goal

pub returns-then-table-ne0 : goal.returns-then-table-ne0
returns-then-table-ne0 c = step_second _ _ (search rules) _ c.if-table-ne0.true

pub returns-in_err-load_from : goal.returns-in_err-load_from
unfolding table_step
returns-in_err-load_from c =
    let (r, is, same) = err_from_is_err_and c.from_residual.result c.from_residual.ensures.1 in
    rw (is, same) (step_first _ _ _ c.if-table-ne0.false _ (sym c.in_err-load_from.ensures))

pub returns : goal.returns
unfolding table_step
returns c = step_first _ _ _ c.if-table-ne0.false _ (sym c.in_ok-load_from.ensures)
