-- `file::slots::tally_with`: a slot of no kind adds its value alone.
use mathlib.Core.Path.{sym, ◌∙◌}
use Rattle.file.proofs.Tallies.{tallied_kindless}
use Rattle.file.proofs.slots.tally_with.Goals as goal

pub returns-then-is_kindless : goal.returns-then-is_kindless
returns-then-is_kindless c =
    let args = c.args in
    tallied_kindless args.slot (sym c.is_kindless.ensures ∙ c.if-is_kindless.true) args.found
