-- `words::values_in`: the values of the words passed.
use Rattle.text_log.specs.Inner.Parsing.{words_left}
use Rattle.text_log.proofs.Fields.{Known}
use Rattle.text_log.proofs.words.values_in.Given as goal

abbrev pub invariant-loop-value : goal.invariant-loop-value
invariant-loop-value g l = Known g.row.N (words_left l.fn.rest) l.value-items l.rest l.value-index
