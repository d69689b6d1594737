-- `opening::first_day`: a good head has a date.
use Rattle.base.proofs.Logic.{passed}
use Rattle.rules.specs.Opening.{day_tests, head_tests, head_ok, first_day}
use Rattle.rules.proofs.opening.first_day.Goals as goal

pub day_number-requires : goal.day_number-requires
unfolding head_ok
day_number-requires c =
    let h = c.args.head in
    passed (day_tests h) (passed (head_tests h) c.requires 1) 0

pub returns : goal.returns
unfolding first_day
returns c = c.day_number.ensures
