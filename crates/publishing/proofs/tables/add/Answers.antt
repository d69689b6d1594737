-- `tables::add` goes by the slot's quality.
use Rattle.publishing.proofs.Totals.{added_actual, added_substituted, added_agreed, added_none}
use Rattle.publishing.proofs.tables.add.Goals as goal

pub returns-in-A : goal.returns-in-A
returns-in-A c = added_actual _ _ c.in-A.is

pub returns-in-S : goal.returns-in-S
returns-in-S c = added_substituted _ _ c.in-S.is

pub returns-in-F : goal.returns-in-F
returns-in-F c = added_agreed _ _ c.in-F.is

pub returns-in-N : goal.returns-in-N
returns-in-N c = added_none _ _ c.in-N.is
