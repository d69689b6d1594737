-- `filling::is_reference` tests as the specification does, one after the other.
use mathlib.Core.Bool.{true, false}
use mathlib.Core.Path.{◌≡◌, sym, ◌∙◌}
use Rattle.rules.specs.Tests.{good_at}
use Rattle.rules.specs.Filling.{is_reference}
use Rattle.rules.specs.Lent.{slots_in}
use Rattle.rules.proofs.Bounds.{bounded, day_below}
use Rattle.rules.proofs.filling.is_reference.Goals as goal
use Rattle.rules.proofs.filling.is_reference.Goals.{Else-not-is_good}

-- the slot is good
good : (c : Else-not-is_good) → let a = c.args in
    good_at a.head (slots_in a.slots.now) a.at ≡ true
good c = sym c.is_good.ensures ∙ c.if-not-is_good.false

pub returns-then-not-is_good : goal.returns-then-not-is_good
unfolding is_reference
returns-then-not-is_good c =
    let a = c.args in
    let bad : good_at a.head (slots_in a.slots.now) a.at ≡ false =
    sym c.is_good.ensures ∙ c.if-not-is_good.true in
    simp bad

pub returns-then-outage_bit : goal.returns-then-outage_bit
unfolding is_reference
returns-then-outage_bit c = simp (
  good (goal.at.returns-then-outage_bit c).Else-not-is_good,
  sym c.outage_bit.ensures ∙
      c.if-outage_bit.true,
)

pub bounds-holidays-day_of : goal.bounds-holidays-day_of
bounds-holidays-day_of c =
    rw (c.day_of.ensures, c.requires.0.holidays)
    (day_below c.args.head (bounded c.args.head c.requires.0.fitted.head) c.args.at c.requires.1)

pub returns : goal.returns
unfolding is_reference
returns c =
    simp (good (goal.at.returns c).Else-not-is_good, sym c.outage_bit.ensures ∙ c.if-outage_bit.false, c.day_of.ensures)
