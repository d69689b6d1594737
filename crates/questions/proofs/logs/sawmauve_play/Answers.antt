-- `sawmauve_play`: the answer of playing as its code, and the lists as playing leaves them.
use borrow.Author.Rules.{rules}
use mathlib.Core.Path.{ap, ◌∙◌}
use Rattle.book.proofs.EachCall.{book_are}
use Rattle.questions.specs.Logs.{played_code}
use Rattle.questions.proofs.logs.sawmauve_play.Goals as goal

pub returns : goal.returns
returns c =
    let told = c.play-played.ensures.told in (
      c.played_code.ensures ∙ ap played_code told.0,
      book_are c.play-played.new.book (search rules) (search rules) (search rules) (search rules) (search rules) (search rules)
          (search rules) (search rules) (search rules) (search rules) told.1,
      told.2,
    )
