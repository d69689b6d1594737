-- `stays`: the reader's refusal, or what is answered of an accepted file.
use mathlib.Core.Path.{refl, sym, ◌∙◌}
use Rattle.std.proofs.lemmas.Result.{err_from_is_err_and}
use Rattle.totals.specs.Stays.{stays_answer, stays_after}
use Rattle.totals.proofs.stays.Goals as goal

pub returns-in_err-g : goal.returns-in_err-g
unfolding stays_answer stays_after
returns-in_err-g c =
    let p = err_from_is_err_and c.from_residual.result c.from_residual.ensures.1 in
    rw (p.1, p.2, sym c.read.ensures ∙ c.in_err-g.was) (refl, refl)

pub stays_in-requires : goal.stays_in-requires
stays_in-requires c = sym c.read.ensures ∙ c.in_ok-g.was
