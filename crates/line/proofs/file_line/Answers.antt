-- `line::file_line`: the line of an accepted file, or the reader's refusal.
use mathlib.Core.Path.{refl, sym, ◌∙◌}
use Rattle.std.proofs.lemmas.Result.{err_from_is_err_and}
use Rattle.file.proofs.Answers.{first_lt}
use Rattle.line.specs.Line.{line_answer, line_after}
use Rattle.line.proofs.file_line.Goals as goal

pub returns-in_err-g : goal.returns-in_err-g
unfolding line_answer line_after
returns-in_err-g c =
    let p = err_from_is_err_and c.from_residual.result c.from_residual.ensures.1 in
    rw (p.1, p.2, sym c.read.ensures ∙ c.in_err-g.was) (refl, refl)

pub fit_line-requires : goal.fit_line-requires
fit_line-requires c = first_lt c.args.bytes.now _ (sym c.read.ensures ∙ c.in_ok-g.was)

pub returns : goal.returns
unfolding line_answer line_after
returns c = rw (sym c.read.ensures ∙ c.in_ok-g.was) c.fit_line.ensures
