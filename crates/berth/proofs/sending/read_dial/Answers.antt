-- `sending::read_dial`: the second read is given the lists as the first left them.
use Rattle.book.specs.Written.{written_reads}
use Prim.Native.Nat.{◌%◌}
use mathlib.Core.Path.{ap, ◌∙◌}
use Rattle.book.specs.Cells.{Reads}
use Rattle.book.specs.Filling.{register_after}
use Rattle.berth.proofs.sending.read_dial.Goals as goal

pub returns-clause-told : goal.returns-clause-told
returns-clause-told c =
    let a = c.register.ensures.told.1 in
    let b = c.register-2.ensures.told.1 in
    let e = c.args in
    let old = written_reads e.reads.now in
    let then : Reads → Reads = λ r. register_after e.head r e.head.days 1 (e.total % 100_000_000) 0 in
    b ∙ ap then a
