-- `heads::head_ok`: an early head within its bounds passes, and any other is tested by `opening::head_ok`.
use mathlib.Core.Path.{sym}
use Rattle.book.proofs.heads.head_ok.Goals as goal

pub returns-then-is_early : goal.returns-then-is_early
returns-then-is_early c = sym (c.is_early.ensures c.if-is_early.true)
