-- `generator::Berth::step`: two draws, and what each decides.
use Rattle.berth.proofs.Draws.{two_draws, value_fits}
use Rattle.berth.proofs.generator.Berth.step.Goals as goal

pub overflow_cast-result-3 : goal.overflow_cast-result-3
overflow_cast-result-3 c = value_fits _ _ c.ranges.most

pub returns : goal.returns
returns c =
    two_draws _ c.draw-first.result c.draw-second.result _ _ c.draw-first.ensures
    c.draw-second.ensures
