-- `numbers::file_number`: the first broken rule is given; else the answer is that of `against_agreed`, and a stored number writes its two
-- cells.
use mathlib.Core.Path.{◌≡◌, refl, sym, ◌∙◌}
use Prim.Native.Nat.{◌<◌, ◌≤◌}
use native.Mathlib.Omega.{arith}
use lib.ListN.{length}
use borrow.Author.Tests.{le-leb, lt-leb, lt-ltb, eq-eqb, ne_eqb}
use Rattle.book.specs.Answers.{Answer, received_meant}
use Rattle.book.specs.Written.{written_agreed}
use Rattle.book.specs.Inner.Numbers.{number_answer, number_after}
use Rattle.book.proofs.OneNumber.{number_sound}
use Rattle.book.proofs.numbers.file_number.Goals as goal
use Rattle.book.proofs.numbers.file_number.Goals.{After-against_agreed-found, Else-agreed-at, Start}

abbrev whole : Start → Answer
whole c = number_answer (written_agreed c.args.agreed.now) c.args.place c.args.version c.args.number

-- the place lies in the list
inside : (c : Else-agreed-at) → c.args.place < length c.args.agreed.now.values.now
inside c = omega (arith, c.if-agreed-at.false)

-- what `against_agreed` found is the answer
found : (c : After-against_agreed-found) → whole (goal.at.After-against_agreed-found c).Start ≡ received_meant c.against_agreed-found.result
found c =
    let small : c.args.number ≤ 99_999_999 = omega (arith, c.if-number-gt-EIGHT_DIGITS.false) in
    number_sound _ _ _ _ (inside (goal.at.After-against_agreed-found c).Else-agreed-at) c.if-version-eq0.false small ∙ sym
    c.against_agreed-found.ensures

pub returns-then-agreed-at-clause-told : goal.returns-then-agreed-at-clause-told
unfolding number_answer number_after
returns-then-agreed-at-clause-told c =
    let beyond : length c.args.agreed.now.values.now ≤ c.args.place =
    omega (arith, c.if-agreed-at.true) in
    rw (le-leb _ _ beyond) (refl, refl)

pub returns-then-version-eq0-clause-told : goal.returns-then-version-eq0-clause-told
unfolding number_answer number_after
returns-then-version-eq0-clause-told c =
    rw (lt-leb _ _ (inside (goal.at.returns-then-version-eq0-clause-told c).Else-agreed-at), eq-eqb _ _ c.if-version-eq0.true) (refl, refl)

pub returns-then-number-gt-EIGHT_DIGITS-clause-told : goal.returns-then-number-gt-EIGHT_DIGITS-clause-told
unfolding number_answer number_after
returns-then-number-gt-EIGHT_DIGITS-clause-told c =
    let large : 99_999_999 < c.args.number = omega (arith, c.if-number-gt-EIGHT_DIGITS.true) in
    rw (
      lt-leb _ _ (inside (goal.at.returns-then-number-gt-EIGHT_DIGITS-clause-told c).Else-agreed-at),
      ne_eqb _ _ c.if-version-eq0.false,
      lt-ltb _ _
          large,
    ) (refl, refl)

pub returns-then-is_stored-clause-told : goal.returns-then-is_stored-clause-told
unfolding number_after
returns-then-is_stored-clause-told c = rw (
  found (goal.at.returns-then-is_stored-clause-told c).After-against_agreed-found,
  sym c.is_stored.ensures ∙
      c.if-is_stored.true,
) (refl, refl)

pub returns-else-is_stored-clause-told : goal.returns-else-is_stored-clause-told
unfolding number_after
returns-else-is_stored-clause-told c = rw (
  found (goal.at.returns-else-is_stored-clause-told c).After-against_agreed-found,
  sym c.is_stored.ensures ∙
      c.if-is_stored.false,
) (refl, refl)
