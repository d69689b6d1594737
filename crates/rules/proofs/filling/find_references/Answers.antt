-- `filling::find_references`. Before each week the search stands, and what is kept of each reference so far is its value and its day.
use mathlib.Core.List.{[], ◌∷◌}
use mathlib.Core.Path.{◌≡◌, refl, sym, ap, ◌∙◌}
use Prim.Native.Nat.{ℕ, ◌+◌, ◌-◌, ◌*◌, ◌/◌, ◌≤◌, ◌<◌}
use native.Mathlib.Nat.{mul-le-mul}
use native.Mathlib.Omega.{arith}
use lib.ListN.{length}
use Rattle.rules.specs.Opening.{Slots, slots_per_day, slot_count}
use Rattle.rules.specs.References.{in_four}
use Rattle.rules.specs.Lent.{slots_in}
use Rattle.rules.specs.Inner.Ways.{value_of, InBook}
use Rattle.rules.specs.Weeks.{first_back, farthest_back}
use Rattle.rules.proofs.Bounds.{Bounded, bounded, count_high, day_below}
use Rattle.rules.proofs.References.{values_each}
use Rattle.rules.proofs.Searches.{Keeping, Standing, stands_first, keeps_none, stands_on, keeps_passed}
use Rattle.rules.proofs.Searches.{keeps_found, weeks_fit, past_gaps}
use Rattle.rules.proofs.Searches.{keeps_spent, keeps_full}
use Rattle.rules.proofs.filling.find_references.Goals as goal
use Rattle.rules.proofs.filling.find_references.Goals.{After-day_with-day, After-pass_gaps-passed, After-way_back-way, Else-left-eq0, Start}

abbrev lent : Start → Slots
lent c = let a = c.args in slots_in a.slots.now

bounds : (c : Start) → Bounded c.args.head
bounds c = bounded c.args.head c.requires.0.fitted.head

most : (c : Start) → slot_count c.args.head ≤ 115_200
most c = count_high c.args.head (bounds (goal.at.Start c).Start)

-- a week of slots, and the first days back, with the weeks that lie in the book
week : (c : After-day_with-day) → 7 * c.day_with-day.result.slots ≡ 7 * slots_per_day c.args.head
week c = ap (λ (x : ℕ). 7 * x) c.day_with-day.ensures.1

first : (c : After-way_back-way) → let a = c.args in
    c.way_back-way.result.first ≡ first_back a.head a.holidays.now (a.slot / slots_per_day a.head)
first c = rw c.day_with-day.ensures.0 at c.way_back-way.ensures.0

weeks : (c : After-way_back-way) → let a = c.args in let d = a.slot / slots_per_day a.head in
    InBook c.way_back-way.result.first (farthest_back a.holidays.now d) d c.way_back-way.result.weeks
weeks c = rw c.day_with-day.ensures.0 at c.way_back-way.ensures.1

-- where the search begins
abbrev begin : After-way_back-way → ℕ
begin c =
    let n = c.day_with-day.result.slots in
    c.args.slot + 7 * n - c.way_back-way.result.first * n

begins : (c : After-way_back-way) → begin (goal.at.After-way_back-way c).After-way_back-way ≡ c.args.slot + 7 * c.day_with-day.result.slots
    - c.way_back-way.result.first * slots_per_day c.args.head
begins c =
    ap (λ (x : ℕ). c.args.slot + 7 * c.day_with-day.result.slots - c.way_back-way.result.first * x) c.day_with-day.ensures.1

stands : (c : After-way_back-way) → Standing c.args.head c.args.slot (7 * c.day_with-day.result.slots) 0
    (begin (goal.at.After-way_back-way c).After-way_back-way) c.way_back-way.result.weeks
stands c =
    stands_first c.args.head (bounds (goal.at.After-way_back-way c).Start) c.args.slot _
    (week (goal.at.After-way_back-way c).After-day_with-day) c.args.holidays.now _ _
    (first (goal.at.After-way_back-way c).After-way_back-way) (weeks (goal.at.After-way_back-way c).After-way_back-way) _
    (begins (goal.at.After-way_back-way c).After-way_back-way)

-- behind the gaps that are passed over nothing is kept yet
keeps : (f : ℕ → ℕ) (c : After-pass_gaps-passed) → let week = 7 * c.day_with-day.result.slots in let r = c.pass_gaps-passed.result in
    Standing c.args.head c.args.slot week 0 r.at r.left
    × Keeping f c.args.head (lent (goal.at.After-pass_gaps-passed c).Start) c.args.holidays.now c.args.slot (0 ∷ 0 ∷ 0 ∷ 0 ∷ []) 0 r.at
    r.left
keeps f c =
    let h = c.args.head in
    past_gaps h (bounds (goal.at.After-pass_gaps-passed c).Start) c.args.slot _ (week (goal.at.After-pass_gaps-passed c).After-day_with-day)
    (stands (goal.at.After-pass_gaps-passed c).After-way_back-way)
    (keeps_none h (bounds (goal.at.After-pass_gaps-passed c).Start) c.args.slot _
    (week (goal.at.After-pass_gaps-passed c).After-day_with-day) c.args.holidays.now _ _
    (first (goal.at.After-pass_gaps-passed c).After-way_back-way) (weeks (goal.at.After-pass_gaps-passed c).After-way_back-way) _
    (begins (goal.at.After-pass_gaps-passed c).After-way_back-way) f (lent (goal.at.After-pass_gaps-passed c).Start))
    _ _ c.pass_gaps-passed.ensures.0 c.pass_gaps-passed.ensures.1

-- the slot of this week lies in the book
inside : (c : Else-left-eq0) → c.weeks.at - 7 * c.day_with-day.result.slots < slot_count c.args.head
inside c = omega (arith, c.weeks.invariant.standing.near, c.requires.1)

pub overflow_mul-week : goal.overflow_mul-week
overflow_mul-week c = rw c.day_with-day.ensures.1 (omega (arith, bounds (goal.at.overflow_mul-week c).Start))

pub way_back-way-requires : goal.way_back-way-requires
way_back-way-requires c = (
  c.requires.0.fitted.head,
  c.requires.0.holidays,
  rw c.day_with-day.ensures.0 (day_below c.args.head (bounds (goal.at.way_back-way-requires c).Start) c.args.slot c.requires.1),
)

pub overflow_add-begin : goal.overflow_add-begin
overflow_add-begin c = rw c.day_with-day.ensures.1
    (omega (arith, bounds (goal.at.overflow_add-begin c).Start, c.requires.1, most (goal.at.overflow_add-begin c).Start))

pub overflow_mul-begin : goal.overflow_mul-begin
overflow_mul-begin c =
    rw c.day_with-day.ensures.1
    (omega (arith, mul-le-mul c.way_back-way.ensures.1.short (bounds (goal.at.overflow_mul-begin c).Start).day_high))

pub pass_gaps-passed-requires : goal.pass_gaps-passed-requires
pass_gaps-passed-requires c = (
  weeks_fit c.args.head (bounds (goal.at.pass_gaps-passed-requires c).Start) c.args.slot _
      (week (goal.at.pass_gaps-passed-requires c).After-day_with-day) _ _ (stands (goal.at.pass_gaps-passed-requires c).After-way_back-way),
  omega (arith, (stands (goal.at.pass_gaps-passed-requires c).After-way_back-way).near, c.requires.1, c.requires.0.fitted.versions),
)

pub weeks-init : goal.weeks-init
weeks-init c =
    let values = keeps (value_of (lent (goal.at.weeks-init c).Start)) (goal.at.weeks-init c).After-pass_gaps-passed in
    record { standing = values.0; values = values.1; dates = (keeps _ (goal.at.weeks-init c).After-pass_gaps-passed).1 }

pub overflow_cast-days : goal.overflow_cast-days
overflow_cast-days c =
    rw c.day_of.ensures
    (record {
      fits = omega (
        arith,
        day_below c.args.head (bounds (goal.at.overflow_cast-days c).Start) _
            (inside (goal.at.overflow_cast-days c).Else-left-eq0),
        (bounds (goal.at.overflow_cast-days c).Start).days_high,
      );
    })

pub weeks-preserved-else-count-eq4 : goal.weeks-preserved-else-count-eq4
weeks-preserved-else-count-eq4 c =
    let held = c.weeks.invariant in
    let yes = sym c.is_reference.ensures ∙ c.if-is_reference.true in
    let seven = held.standing.seven in
    let more = c.if-left-eq0.false in
    record {
      standing = stands_on c.args.head (bounds (goal.at.weeks-preserved-else-count-eq4 c).Start) _ _ seven held.standing more _
          (omega (arith, held.standing.room, c.if-count-eq4.false));
      values = keeps_found c.args.head (bounds (goal.at.weeks-preserved-else-count-eq4 c).Start) _ _ seven held.standing more held.values _
          refl yes;
      dates = keeps_found c.args.head (bounds (goal.at.weeks-preserved-else-count-eq4 c).Start) _ _ seven held.standing more held.dates _
          c.day_of.ensures yes;
    }

pub weeks-preserved : goal.weeks-preserved
weeks-preserved c =
    let held = c.weeks.invariant in
    let no = sym c.is_reference.ensures ∙ c.if-is_reference.false in
    let seven = held.standing.seven in
    let more = c.if-left-eq0.false in
    record {
      standing = stands_on c.args.head (bounds (goal.at.weeks-preserved c).Start) _ _ seven held.standing more _ held.standing.room;
      values = keeps_passed c.args.head (bounds (goal.at.weeks-preserved c).Start) _ _ seven held.standing more held.values no;
      dates = keeps_passed c.args.head (bounds (goal.at.weeks-preserved c).Start) _ _ seven held.standing more held.dates no;
    }

pub returns-then-left-eq0 : goal.returns-then-left-eq0
returns-then-left-eq0 c =
    let held = c.weeks.invariant in
    let v = keeps_spent held.values held.standing.room c.if-left-eq0.true in
    let d = keeps_spent held.dates held.standing.room c.if-left-eq0.true in
    let e = values_each c.args.head (lent (goal.at.returns-then-left-eq0 c).Start) c.args.holidays.now c.args.slot in
    (d.0, v.0 ∙ ap in_four e, v.1 ∙ ap length e)

pub returns-then-count-eq4 : goal.returns-then-count-eq4
returns-then-count-eq4 c =
    let held = c.weeks.invariant in
    let yes = sym c.is_reference.ensures ∙ c.if-is_reference.true in
    let seven = held.standing.seven in
    let more = c.if-left-eq0.false in
    let v = keeps_full (keeps_found c.args.head (bounds (goal.at.returns-then-count-eq4 c).Start) _ _ seven held.standing more held.values _
    refl yes) c.if-count-eq4.true in
    let d = keeps_full (keeps_found c.args.head (bounds (goal.at.returns-then-count-eq4 c).Start) _ _ seven held.standing more held.dates _
    c.day_of.ensures
    yes) c.if-count-eq4.true in
    let e = values_each c.args.head (lent (goal.at.returns-then-count-eq4 c).Start) c.args.holidays.now c.args.slot in
    (d.0, v.0 ∙ ap in_four e, v.1 ∙ ap length e)
