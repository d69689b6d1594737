-- The tests 1 and 2, which each filling call makes first: the head, and the lengths of its lists.
use Rattle.base.specs.declared.Refusal.TheVariants.{WrongLength}
use mathlib.Core.Bool.{Bool, true, false}
use mathlib.Core.Path.{◌≡◌, sym, ◌∙◌}
use Rattle.base.specs.Refusals.{unless}
use Rattle.rules.specs.declared.Head.{Head}
use Rattle.rules.specs.Opening.{head_ok}
use Rattle.book.specs.Answers.{Answer}
use Rattle.book.specs.Answers.Answer.{refused}
use Rattle.book.specs.Arguments.{Call, argument_rules}
use Rattle.book.specs.Filling.{input_rules}

-- what the code's `if !test` tells of a test that a definition names
pub passes : {r t : Bool} → r ≡ t → r ≡ true → t ≡ true
passes e h = sym e ∙ h

pub fails : {r t : Bool} → r ≡ t → r ≡ false → t ≡ false
fails e h = sym e ∙ h

module _ (h : Head) (fit : Bool) (call : Call) (rest : Answer) where
  pub refused_2 : head_ok h ≡ true → fit ≡ false → unless refused (input_rules h fit call) rest ≡ refused WrongLength
  refused_2 ok unfit = rw (ok, unfit)

  pub past_both : head_ok h ≡ true → fit ≡ true → unless refused (input_rules h fit call) rest ≡ unless refused (argument_rules h call) rest
  past_both ok fits = rw (ok, fits)
