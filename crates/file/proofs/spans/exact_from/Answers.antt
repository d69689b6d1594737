-- `file::spans::exact_from` meets its contract.
use Rattle.file.proofs.Offsets.{exact_at}
use Rattle.file.proofs.spans.exact_from.Goals as goal

pub returns : goal.returns
returns c =
    simp (
      exact_at,
      c.number-advance.ensures.0,
      c.number.ensures.0,
      c.number-2.ensures.0,
    )
