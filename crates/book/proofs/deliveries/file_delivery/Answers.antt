-- `deliveries::file_delivery`: a full day is refused; else the answer is that of `against_slot`, and a stored delivery writes its cells
-- and its day's count.
use mathlib.Core.Bool.{true, false}
use mathlib.Core.Path.{◌≡◌, refl, sym, ◌∙◌}
use Prim.Native.Nat.{◌/◌, ◌<◌}
use native.Mathlib.Omega.{arith}
use lib.ListN.{length, get_or}
use Rattle.rules.specs.Opening.{slots_per_day}
use Rattle.rules.proofs.Bounds.{bounded, day_below}
use Rattle.book.specs.Filling.{is_full, against_delivery}
use borrow.Author.Rules.{rules}
use Rattle.book.proofs.deliveries.file_delivery.Goals as goal
use Rattle.book.proofs.deliveries.file_delivery.Goals.{After-day_of-day}

-- the slot's day has a count
day_inside : (c : After-day_of-day)
    → c.day_of-day.result < length c.args.counts.now
day_inside c =
    omega (
      arith,
      c.day_of-day.ensures,
      c.requires.counts,
      day_below c.args.head (bounded _ c.requires.fitted.head) c.args.slot c.requires.inside,
    )

pub offset_bounds-counts-day : goal.offset_bounds-counts-day
offset_bounds-counts-day c = let i = day_inside (goal.at.offset_bounds-counts-day c).After-day_of-day in search rules

pub bounds-counts-day : goal.bounds-counts-day
bounds-counts-day c = day_inside (goal.at.bounds-counts-day c).After-day_of-day

pub returns-then-is_full-clause-told : goal.returns-then-is_full-clause-told
unfolding against_delivery
returns-then-is_full-clause-told c =
    let full : is_full c.args.head (get_or c.args.slots.now.versions.now c.args.slot 0)
    (get_or c.args.counts.now (c.args.slot / slots_per_day c.args.head) 0) ≡ true =
    rw c.day_of-day.ensures at (sym c.is_full.ensures ∙ c.if-is_full.true) in
    rw full (refl, refl, refl)

pub raised-requires : goal.raised-requires
raised-requires c =
    (c.requires.fitted.head, sym c.is_full.ensures ∙ c.if-is_full.false)

pub offset_bounds-counts-day-then-is_stored : goal.offset_bounds-counts-day-then-is_stored
offset_bounds-counts-day-then-is_stored c = let i = day_inside (goal.at.offset_bounds-counts-day-then-is_stored c).After-day_of-day in
    search rules

pub bounds-counts-day-then-is_stored : goal.bounds-counts-day-then-is_stored
bounds-counts-day-then-is_stored c = day_inside (goal.at.bounds-counts-day-then-is_stored c).After-day_of-day

pub returns-then-is_stored-clause-told : goal.returns-then-is_stored-clause-told
unfolding against_delivery
returns-then-is_stored-clause-told c =
    let full : is_full c.args.head (get_or c.args.slots.now.versions.now c.args.slot 0)
    (get_or c.args.counts.now (c.args.slot / slots_per_day c.args.head) 0) ≡ false =
    simp c.day_of-day.ensures at (sym c.is_full.ensures ∙ c.if-is_full.false) in
    rw (
      full,
      sym c.against_slot-found.ensures,
      sym c.is_stored.ensures ∙ c.if-is_stored.true,
      c.raised.ensures,
      c.day_of-day.ensures,
    ) (refl, refl, refl)

pub returns-else-is_stored-clause-told : goal.returns-else-is_stored-clause-told
unfolding against_delivery
returns-else-is_stored-clause-told c =
    let full : is_full c.args.head (get_or c.args.slots.now.versions.now c.args.slot 0)
    (get_or c.args.counts.now (c.args.slot / slots_per_day c.args.head) 0) ≡ false =
    simp c.day_of-day.ensures at (sym c.is_full.ensures ∙ c.if-is_full.false) in
    rw (full, sym c.against_slot-found.ensures, sym c.is_stored.ensures ∙ c.if-is_stored.false) (refl, refl, refl)
