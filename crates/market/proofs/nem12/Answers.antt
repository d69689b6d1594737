-- `nem12`: the reader's refusal, or the export of an accepted file.
use mathlib.Core.Path.{sym, ◌∙◌}
use Rattle.std.proofs.lemmas.Result.{err_from_is_err_and}
use Rattle.market.specs.Fields.{lent}
use Rattle.market.proofs.Answers.{refused_by_reader}
use Rattle.market.proofs.nem12.Goals as goal

pub returns-in_err-g : goal.returns-in_err-g
returns-in_err-g c =
    let a = c.args in
    let p = err_from_is_err_and c.from_residual.result c.from_residual.ensures.1 in
    rw (p.1, p.2) (refused_by_reader a.file.now _ (sym c.read.ensures ∙ c.in_err-g.was) (lent a.texts.now) a.codes a.out.now)

pub export_of-requires : goal.export_of-requires
export_of-requires c = sym c.read.ensures ∙ c.in_ok-g.was
