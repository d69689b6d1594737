-- `filling::fill_all`: before each line, what is still to come from the present lists completes what was told.
use Rattle.play.proofs.Walking.{walk_first, walk_line, walk_next, walk_last}
use borrow.Author.Rules.{rules}
use mathlib.Core.Path.{refl}
use native.Mathlib.Omega.{arith}
use Rattle.play.proofs.filling.fill_all.Goals as goal

pub loop-i-init : goal.loop-i-init
loop-i-init c =
    record {
      walked = walk_first _ _ _ _ c.requires;
      same = search rules;
      long_answers = refl;
    }

pub line_from-found-requires : goal.line_from-found-requires
line_from-found-requires c = walk_line _ _ _ c.loop-i.invariant.walked (omega (arith, c.loop-i.invariant.long_answers, c.loop-i-test.true))

pub loop-i-preserved : goal.loop-i-preserved
loop-i-preserved c =
    record {
      walked = walk_next _ _ _ c.loop-i.invariant.walked c.line_from-found.ensures _ _ c.play_line-code.ensures.told;
      same = search rules;
      long_answers = search rules;
    }

pub returns-clause-told : goal.returns-clause-told
returns-clause-told c = walk_last _ _ _ c.loop-i.invariant.walked (omega (arith, c.loop-i.invariant.long_answers))
