-- `tables::begin` has nothing written.
use Rattle.publishing.proofs.Totals.{progress_first}
use Rattle.publishing.proofs.tables.begin.Goals as goal

pub returns : goal.returns
returns c = λ h b. progress_first h b c.first.result (c.first.ensures h b)
