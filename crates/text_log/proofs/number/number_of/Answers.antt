-- `number::number_of`: the value of the digits passed.
use borrow.Author.Rules.{rules}
use mathlib.Core.Path.{sym, ◌∙◌}
use Prim.Native.Nat.{◌-◌, ◌+◌, ◌*◌}
use native.Mathlib.Omega.{arith}
use lib.ListN.{get_or}
use Rattle.text_log.proofs.Reading.{number_empty, number_starts, number_digit, number_letter, number_over, number_ends}
use Rattle.text_log.proofs.number.number_of.Goals as goal

pub returns-then-is_empty : goal.returns-then-is_empty
returns-then-is_empty c = sym (number_empty c.args.word.now (search rules))

pub loop-byte-init : goal.loop-byte-init
loop-byte-init c = record { inside = search rules; small = search rules; known = number_starts c.args.word.now (search rules) }

pub returns-then-not-is_ascii_digit : goal.returns-then-not-is_ascii_digit
returns-then-not-is_ascii_digit c =
    sym (c.loop-byte.invariant.known
    ∙ number_letter c.args.word.now c.loop-byte.byte-index c.loop-byte.value (search rules)
    (sym c.is_ascii_digit.ensures.value ∙ c.if-not-is_ascii_digit.true))

pub returns-then-value-gt4294967295 : goal.returns-then-value-gt4294967295
returns-then-value-gt4294967295 c =
    sym (c.loop-byte.invariant.known
    ∙ number_digit c.args.word.now c.loop-byte.byte-index c.loop-byte.value (search rules)
    (sym c.is_ascii_digit.ensures.value ∙ c.if-not-is_ascii_digit.false)
    ∙ number_over (10 * c.loop-byte.value + (get_or c.args.word.now c.loop-byte.byte-index 0 - 48)) _
    (omega (arith, c.if-value-gt4294967295.true)))

pub loop-byte-preserved : goal.loop-byte-preserved
loop-byte-preserved c =
    record {
      inside = search rules;
      small = search rules;
      known =
          rw c.from.ensures
          (c.loop-byte.invariant.known
          ∙ number_digit c.args.word.now c.loop-byte.byte-index c.loop-byte.value (search rules)
          (sym c.is_ascii_digit.ensures.value ∙ c.if-not-is_ascii_digit.false));
    }

pub returns : goal.returns
returns c =
    sym (c.loop-byte.invariant.known
    ∙ number_ends c.args.word.now c.loop-byte.value c.loop-byte.byte-index (omega arith) (search rules))
