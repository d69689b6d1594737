-- `file::spans::ranged_from` meets its contract.
use Rattle.file.proofs.Offsets.{ranged_at}
use Rattle.file.proofs.spans.ranged_from.Goals as goal

pub returns : goal.returns
returns c =
    simp (
      ranged_at,
      c.number.ensures.0,
      c.number-2.ensures.0,
      c.number-3.ensures.0,
      c.number-4.ensures.0,
    )
