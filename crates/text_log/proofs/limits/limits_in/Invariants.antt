-- `limits::limits_in`: the numbers passed stand in front of zeros, and the words left follow.
use lib.ListN.{length}
use Rattle.text_log.specs.Inner.Parsing.{words_left}
use Rattle.text_log.proofs.Tables.{Passed}
use Rattle.text_log.proofs.limits.limits_in.Given as goal

abbrev pub invariant-words : goal.invariant-words
invariant-words l = Passed (words_left l.fn.rest) (words_left l.rest) l.values l.count

abbrev pub decreases-words : goal.decreases-words
decreases-words l = length l.rest
