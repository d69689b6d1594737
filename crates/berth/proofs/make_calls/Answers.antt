-- `make_calls`: the lists of each kind of call make up the book that the calls of the run leave.
use borrow.Author.Rules.{rules}
use mathlib.Core.Path.{◌∙◌}
use Rattle.book.proofs.EachCall.{reads_are}
use Rattle.berth.proofs.Lists.{sent_are, run_lists, opens}
use Rattle.berth.proofs.make_calls.Goals as goal
use Rattle.berth.proofs.make_calls.Goals.{After-open}

pub send_all-total-requires : goal.send_all-total-requires
send_all-total-requires c = c.requires.0

pub returns-clause-told : goal.returns-clause-told
returns-clause-told c =
    let e = (goal.at.returns-clause-told c).After-open.«open».ensures.told.1 in
    let o = e ∙ opens _ _ c.requires.0 c.requires.1 in
    let s = c.send_all-total.ensures.told in (
      s.0,
      run_lists _ _ _ _ _ _ _ o s.0
          (sent_are c.send_all-total.new.slots (search rules) (search rules) (search rules) s.1)
          (reads_are c.read_dial.new.reads (search rules) (search rules) (search rules) c.read_dial.ensures.told),
    )
