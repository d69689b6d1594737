-- `sawmauve_simulate`: 1 goes before the length of the report, which goes with 2; else the answer of the run as its code.
use mathlib.Core.Path.{sym, ◌∙◌}
use Rattle.book.proofs.EachCall.{book_are}
use Rattle.questions.proofs.Reporting.{each, bad_head, bad_report, run_told}
use borrow.Author.Rules.{rules}
use Rattle.questions.proofs.simulating.sawmauve_simulate.Goals as goal

pub returns-then-not-head_ok : goal.returns-then-not-head_ok
returns-then-not-head_ok c =
    rw c.number.ensures
    (each (bad_head _ _ c.head_of-head.ensures _ _ _ _ _ (sym c.head_ok.ensures ∙ c.if-not-head_ok.true)))

pub returns-then-report-ne2 : goal.returns-then-report-ne2
returns-then-report-ne2 c =
    rw c.number-then-report-ne2.ensures
    (each (bad_report _ _ c.head_of-head.ensures _ _ _ _ _
    (sym c.head_ok.ensures ∙ c.if-not-head_ok.false) c.if-report-ne2.true))

pub tell-requires : goal.tell-requires
tell-requires c = c.if-report-ne2.false

pub returns : goal.returns
returns c =
    let e = c.simulate-simulated.ensures.told in
    let lists = book_are c.simulate-simulated.new.book (search rules) (search rules) (search rules) (search rules) (search rules)
    (search rules) (search rules) (search rules) (search rules) (search rules) e.1 in
    each (run_told _ _ c.head_of-head.ensures _ _ _ _ _ c.if-report-ne2.false _ e.0 lists e.2 c.tell.ensures.0 c.tell.ensures.1)
