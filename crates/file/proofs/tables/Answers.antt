-- `file::tables`: what `read` answered says which part.
use mathlib.Core.Path.{sym, ◌∙◌, ap}
use native.Mathlib.Omega.{arith}
use Rattle.file.specs.Reader.{part_of, tables_part}
use Rattle.file.proofs.Answers.{long_enough}
use Rattle.file.proofs.tables.Goals as goal

pub slice_bounds-result-count : goal.slice_bounds-result-count
slice_bounds-result-count c = omega (arith, long_enough c.args.file.now _ (sym c.read.ensures ∙ c.in-Ok.is))

pub returns-in-Ok : goal.returns-in-Ok
unfolding tables_part
returns-in-Ok c = sym (ap (λ v. part_of v c.args.file.now) (sym c.read.ensures ∙ c.in-Ok.is))

pub returns-in-Err : goal.returns-in-Err
unfolding tables_part
returns-in-Err c = sym (ap (λ v. part_of v c.args.file.now) (sym c.read.ensures ∙ c.in-Err.is))
