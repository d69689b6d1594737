-- `run`: publishing is given the lists that the calls left, and the report is read from what it wrote.
use native.Mathlib.Omega.{arith}
use Rattle.berth.proofs.Sends.{true_high}
use Rattle.berth.proofs.Answers.{wrote, total_written, reported}
use Rattle.berth.proofs.run.Goals as goal

pub report-requires : goal.report-requires
report-requires c =
    let p = c.requires in
    let left = wrote _ c.args.seed c.args.loss p.0 _ p.2 c.make_calls-total.ensures.told.1
    (rw c.as_book.ensures at c.publish.ensures.1) in
    let high = true_high c.args.head c.args.seed c.args.loss p.0 in (
      p.0,
      omega (arith, p.2),
      total_written _ c.args.seed c.args.loss p.0 _ p.2 left,
      omega (arith, c.make_calls-total.ensures.told.0),
    )

pub returns-clause-told : goal.returns-clause-told
returns-clause-told c =
    let p = c.requires in
    let left = wrote _ c.args.seed c.args.loss p.0 _ p.2 c.make_calls-total.ensures.told.1
    (rw c.as_book.ensures at c.publish.ensures.1) in (
      reported _ _ _ p.0 _ p.2 left c.make_calls-total.ensures.told.0 c.report.ensures,
      c.make_calls-total.ensures.told.1,
      left,
    )
