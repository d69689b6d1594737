-- `simulate`: a refusal changes nothing; else the run is that of the specification.
use mathlib.Core.Path.{refl}
use Rattle.std.proofs.lemmas.Result.{err_from_is_err_and}
use Rattle.berth.proofs.Answers.{each, refused, passes, ran}
use Rattle.berth.proofs.simulate.Goals as goal

pub returns-in_err-refusal-clause-told : goal.returns-in_err-refusal-clause-told
returns-in_err-refusal-clause-told c =
    let (r, is, same) = err_from_is_err_and c.from_residual.result c.from_residual.ensures.1 in
    rw (is, same) (each (refused _ _ _ _ _ _ (rw c.as_book.ensures at c.in_err-refusal.ensures) refl))

pub run-requires : goal.run-requires
run-requires c = passes _ c.args.seed c.args.loss _ c.args.out.now _ (rw c.as_book.ensures at c.in_ok-refusal.ensures) refl

pub returns-clause-told : goal.returns-clause-told
returns-clause-told c =
    each (ran _ _ _ _ _ _ (rw c.as_book.ensures at c.in_ok-refusal.ensures) refl c.run.ensures.told)
