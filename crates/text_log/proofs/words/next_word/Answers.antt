-- `words::next_word`: behind a separator stands a word.
use mathlib.Core.Path.{ap, ◌∙◌}
use native.Mathlib.Omega.{arith}
use lib.ListN.{length, length-append}
use Rattle.text_log.proofs.Fields.{left_none, left_words}
use Rattle.text_log.proofs.words.next_word.Goals as goal

pub returns-in_err-after : goal.returns-in_err-after
returns-in_err-after c = rw c.from_residual.ensures (left_none c.args.rest.now c.in_err-after.ensures.cases)

pub returns : goal.returns
returns c =
    let cases = c.in_ok-after.ensures.cases in (
      left_words c.args.rest.now c.in_ok-after.after.now c.in_ok-after.field-0-0.now cases.0 ∙ c.cut.ensures.pieces,
      omega (arith, cases.1, simp length-append at (ap length c.cut.ensures.whole)),
    )
