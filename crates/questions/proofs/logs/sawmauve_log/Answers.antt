-- `logs::sawmauve_log`: 2 for a list of another length; else what checking says, as numbers.
use Rattle.questions.proofs.Logging.{other_figures, figures_told}
use Rattle.questions.proofs.logs.sawmauve_log.Goals as goal

pub returns-then-figures-ne9 : goal.returns-then-figures-ne9
returns-then-figures-ne9 c = rw c.number.ensures (other_figures _ _ c.if-figures-ne9.true)

pub returns : goal.returns
returns c =
    figures_told _ _ c.if-figures-ne9.false _ c.check-found.ensures
    c.tell_log.ensures
