-- `file::spans::Framed::states_ok`: each span has passed its own tests.
use borrow.Author.Rules.{rules}
use Rattle.base.proofs.Sums.{all_at}
use Rattle.file.proofs.spans.Framed.states_ok.Goals as goal

pub state_ok-requires : goal.state_ok-requires
state_ok-requires c = (search rules, all_at _ c.args.self.now.figures.spans c.requires c.loop-j.j (search rules))
