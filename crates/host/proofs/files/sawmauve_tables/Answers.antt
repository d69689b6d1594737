-- `sawmauve_tables`: the length of the part that `tables` gives.
use mathlib.Core.Path.{ap}
use lib.ListN.{length}
use Rattle.host.proofs.files.sawmauve_tables.Goals as goal

pub returns : goal.returns
returns c = ap length c.tables.ensures
