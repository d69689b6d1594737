-- `tests::cause_of` gives the first test that applies.
use borrow.Author.Tests.{eq-eqb, ne_eqb, lt-ltb, le-ltb}
use Rattle.rules.specs.Tests.{cause_of, time_change_bit, partial_bit}
use Rattle.rules.proofs.tests.cause_of.Goals as goal

pub returns-then-version-eq0 : goal.returns-then-version-eq0
unfolding cause_of time_change_bit partial_bit
returns-then-version-eq0 c = simp (eq-eqb _ _ c.if-version-eq0.true)

pub returns-then-status-eq1 : goal.returns-then-status-eq1
unfolding cause_of time_change_bit partial_bit
returns-then-status-eq1 c = simp (ne_eqb _ _ c.if-version-eq0.false, eq-eqb _ _ c.if-status-eq1.true)

pub returns-then-status-eq1-2 : goal.returns-then-status-eq1-2
unfolding cause_of time_change_bit partial_bit
returns-then-status-eq1-2 c = simp (ne_eqb _ _ c.if-version-eq0.false, ne_eqb _ _ c.if-status-eq1.false, eq-eqb _ _ c.if-status-eq1-2.true)

pub returns-then-limit-interval : goal.returns-then-limit-interval
unfolding cause_of time_change_bit partial_bit
returns-then-limit-interval c =
    simp (
      ne_eqb _ _ c.if-version-eq0.false,
      ne_eqb _ _ c.if-status-eq1.false,
      ne_eqb _ _ c.if-status-eq1-2.false,
      lt-ltb _ _ c.if-limit-interval.true,
    )

pub returns : goal.returns
unfolding cause_of time_change_bit partial_bit
returns c =
    simp (
      ne_eqb _ _ c.if-version-eq0.false,
      ne_eqb _ _ c.if-status-eq1.false,
      ne_eqb _ _ c.if-status-eq1-2.false,
      le-ltb _ _ c.if-limit-interval.false,
    )
