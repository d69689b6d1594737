-- `sawmauve_open`: the answer of opening as its code, and the lists as opening leaves them.
use borrow.Author.Rules.{rules}
use mathlib.Core.Path.{ap, ◌∙◌, ◌≡◌, refl}
use Rattle.std.specs.Prelude.{Result, Ok, Err}
use Rattle.base.specs.declared.Refusal.{Refusal}
use Rattle.base.specs.Refusals.{code_of}
use Rattle.book.specs.Answers.{answer_code, opened_meant}
use Rattle.book.proofs.EachCall.{book_are}
use Rattle.host.proofs.sawmauve_open.Goals as goal
use Rattle.host.proofs.sawmauve_open.Goals.{After-open}

code_meant : (a : Result (Unit {0}) Refusal) → code_of a ≡ answer_code (opened_meant a)
code_meant (Ok _) = refl
code_meant (Err r) = refl

pub returns : goal.returns
returns c =
    let o = (goal.at.returns c).After-open.«open» in
    let told = o.ensures.told in
    rw (← c.head_of-head.ensures) (
      c.code_of.ensures ∙ code_meant o.result ∙ ap answer_code told.0,
      book_are o.new.book (search rules) (search rules) (search rules) (search rules) (search rules) (search rules) (search rules)
          (search rules) (search rules) (search rules) told.1,
    )
