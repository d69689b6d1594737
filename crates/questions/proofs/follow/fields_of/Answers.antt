-- `follow::fields_of`: each place holds its field.
use Rattle.questions.specs.Follow.{fields_of}
use Rattle.questions.proofs.follow.fields_of.Goals as goal

pub returns : goal.returns
unfolding fields_of
returns c =
    simp (
      c.line_in-line.ensures,
      c.found_in-found.ensures,
      c.unwrap_or-span.ensures,
      c.unwrap_or-shares.ensures,
      c.cause_code.ensures,
      c.rule_code.ensures,
      c.letter_of.ensures,
      c.letter_of-2.ensures,
      c.is_some.ensures,
      c.is_some-2.ensures,
      c.from.ensures,
      c.from-2.ensures,
      c.from-3.ensures,
      c.from-4.ensures,
      c.from-5.ensures,
      c.from-6.ensures,
      c.from-7.ensures,
      c.from-8.ensures,
      c.from-9.ensures,
      c.from-10.ensures,
      c.from-11.ensures,
      c.from-12.ensures,
      c.from-13.ensures,
      c.from-14.ensures,
      c.from-15.ensures,
      c.from-16.ensures,
      c.from-17.ensures,
      c.from-18.ensures,
      c.from-19.ensures,
      c.from-20.ensures,
      c.from-21.ensures,
      c.from-22.ensures,
      c.from-23.ensures,
    )
