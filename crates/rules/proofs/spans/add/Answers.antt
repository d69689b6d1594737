-- `spans::add` goes by the slot's quality.
use mathlib.Core.Path.{◌∙◌}
use Rattle.rules.proofs.Summaries.{added_actual, added_substituted, added_agreed, added_none}
use Rattle.rules.proofs.spans.add.Goals as goal

pub returns-in-A : goal.returns-in-A
returns-in-A c = c.add_actual.ensures ∙ added_actual _ _ _ c.in-A.is

pub returns-in-S : goal.returns-in-S
returns-in-S c = added_substituted _ _ _ c.in-S.is

pub returns-in-F : goal.returns-in-F
returns-in-F c = c.add_actual-in-F.ensures ∙ added_agreed c.args.sum c.args.slot _ c.in-F.is

pub returns-in-N : goal.returns-in-N
returns-in-N c = added_none _ _ _ c.in-N.is
