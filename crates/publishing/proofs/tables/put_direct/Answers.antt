-- `tables::put_direct`. Before each slot the records of the direct slots so far are written.
use mathlib.Core.Bool.{true, false}
use mathlib.Core.Path.{◌≡◌, refl, sym, ◌∙◌}
use Prim.Native.Nat.{ℕ, ◌+◌, ◌-◌, ◌*◌, ◌≤◌, ◌<◌}
use native.Mathlib.Nat.{le_refl}
use native.Mathlib.Omega.{arith}
use Rattle.base.specs.Lists.{up_to}
use lib.ListN.{length, get_or}
use Rattle.rules.specs.declared.Head.{Head}
use Rattle.rules.specs.Opening.{Slots, Agreed, slot_count}
use Rattle.rules.specs.Lent.{agreed_in, slots_in}
use Rattle.rules.specs.Tests.{good_at}
use Rattle.rules.specs.Inner.Walks.{actual_of, agreed_of, direct_of}
use Rattle.rules.proofs.Bounds.{bounded, count_high}
use Rattle.rules.proofs.Directs.{direct_good, direct_agreed, direct_none}
use Rattle.rules.proofs.Outages.{zero_none, good_delivered}
use Rattle.file.specs.Layout.{table}
use Rattle.publishing.specs.Inner.Publishing.{direct_totals, Countable}
use Rattle.publishing.proofs.Buffers.{written_none}
use Rattle.publishing.proofs.Records.{ran_on, ran_end}
use Rattle.publishing.proofs.tables.put_direct.Goals as goal
use Rattle.publishing.proofs.tables.put_direct.Goals.{At-loop-at, In-loop-at, then-is_good, else-is_good+else-agreed-at-eq0}

abbrev lent : At-loop-at → Slots
lent c = let a = c.args in slots_in a.slots.now

abbrev settled : At-loop-at → Agreed
settled c = let a = c.args in agreed_in a.agreed.now

absent : {i from : ℕ} → i < from → from ≤ i → ⊥
absent l m = omega arith

-- the outcomes of a good slot and of an agreed one
module _ (h : Head) (s : Slots) (a : Agreed) (i : ℕ) where
  good-outcome : good_at h s i ≡ true → actual_of (get_or s.values i 0) ≡ direct_of h s a i
  unfolding direct_of
  good-outcome g = rw g

  agreed-outcome : good_at h s i ≡ false → agreed_of (get_or a.values i 0) ≡ direct_of h s a i
  unfolding direct_of
  agreed-outcome g = rw g

-- the slot lies in the book
below : (c : In-loop-at) → c.loop-at.at < slot_count c.args.head
below c = omega (arith, c.loop-at-test.true, c.requires.direct.inside)

most : (c : At-loop-at) → slot_count c.args.head ≤ 115_200
most c = count_high c.args.head (bounded c.args.head c.requires.direct.fitted.head)

-- its record has room
room : (c : In-loop-at) → 6 * c.loop-at.at + 6 ≤ length c.loop-at.out
room c = omega (arith, c.loop-at-test.true, c.requires.room, c.loop-at.invariant.long)

counts : (c : In-loop-at) → Countable c.loop-at.totals
counts c =
    let ran = c.loop-at.invariant in
    let from = c.args.from in
    let k : from + (c.loop-at.at - from) ≡ c.loop-at.at = omega (arith, ran.further) in
    rw ran.totals (c.requires.countable (c.loop-at.at - from) (omega (arith, k, ran.inside))
    (λ i l. ran.direct i (omega (arith, k))))

pub loop-at-init : goal.loop-at-init
unfolding direct_totals up_to table
loop-at-init c =
    let pre = c.requires in
    let none : c.args.from - c.args.from ≡ 0 = omega arith in
    record {
      further = le_refl _;
      inside = pre.direct.ordered;
      direct = λ i l m. absurd (absent l m);
      outage = pre.direct.outage;
      totals = rw none;
      long = refl;
      bytes = rw none (sym (written_none _ _));
    }

pub is_good-requires : goal.is_good-requires
is_good-requires c = (c.requires.direct.fitted, below (goal.at.is_good-requires c).In-loop-at)

pub bounds-slots-at : goal.bounds-slots-at
bounds-slots-at c =
    omega (arith, below (goal.at.bounds-slots-at c).In-loop-at, c.requires.direct.fitted.values)

pub overflow_mul-at : goal.overflow_mul-at
overflow_mul-at c = omega (arith, below (goal.at.overflow_mul-at c).In-loop-at, most (goal.at.overflow_mul-at c).At-loop-at)

pub put_slot-requires : goal.put_slot-requires
put_slot-requires c = omega (arith, room (goal.at.put_slot-requires c).In-loop-at)

pub add-totals-requires : goal.add-totals-requires
add-totals-requires c = counts (goal.at.add-totals-requires c).In-loop-at

pub bounds-agreed-at : goal.bounds-agreed-at
bounds-agreed-at c =
    omega (arith, below (goal.at.bounds-agreed-at c).In-loop-at, c.requires.direct.settled.versions)

pub returns-then-agreed-at-eq0 : goal.returns-then-agreed-at-eq0
returns-then-agreed-at-eq0 c =
    let cause = sym c.is_good.ensures ∙ c.if-is_good.false in
    ran_end _ (lent (goal.at.returns-then-agreed-at-eq0 c).At-loop-at)
    (settled (goal.at.returns-then-agreed-at-eq0 c).At-loop-at) _ _ _ _ _ _ _ _ c.loop-at.invariant
    (λ l. direct_none _ _ (settled (goal.at.returns-then-agreed-at-eq0 c).At-loop-at) _ cause c.if-agreed-at-eq0.true)

pub bounds-agreed-at-else-is_good : goal.bounds-agreed-at-else-is_good
bounds-agreed-at-else-is_good c =
    omega (arith, below (goal.at.bounds-agreed-at-else-is_good c).In-loop-at, c.requires.direct.settled.values)

pub overflow_mul-at-else-is_good : goal.overflow_mul-at-else-is_good
overflow_mul-at-else-is_good c = omega (
  arith,
  below (goal.at.overflow_mul-at-else-is_good c).In-loop-at,
  most
      (goal.at.overflow_mul-at-else-is_good c).At-loop-at,
)

pub put_slot-requires-else-is_good : goal.put_slot-requires-else-is_good
put_slot-requires-else-is_good c = omega (arith, room (goal.at.put_slot-requires-else-is_good c).In-loop-at)

pub outage_zero-outage-requires : goal.outage_zero-outage-requires
outage_zero-outage-requires c =
    let fitted = c.requires.direct.fitted in (
      fitted.statuses ∙ sym fitted.versions,
      omega (arith, below (goal.at.outage_zero-outage-requires c).In-loop-at, fitted.versions),
      rw fitted.versions c.loop-at.invariant.outage,
    )

pub add-totals-requires-else-is_good : goal.add-totals-requires-else-is_good
add-totals-requires-else-is_good c = counts (goal.at.add-totals-requires-else-is_good c).In-loop-at

pub loop-at-smaller : goal.loop-at-smaller
loop-at-smaller c = omega (arith, c.loop-at-test.true)

pub loop-at-preserved : goal.loop-at-preserved
loop-at-preserved c =
    let h = c.args.head in
    let s = lent (goal.at.loop-at-preserved c).At-loop-at in
    let a = settled (goal.at.loop-at-preserved c).At-loop-at in
    let i = c.loop-at.at in
    let on = ran_on h s a _ _ _ _ _ _ _ i c.loop-at.invariant in
    elim c.if-is_good.branch [
      | then-is_good w ↦
          let is = sym c.is_good.ensures ∙ w.if-is_good.true in
          let zero = sym (zero_none s.versions s.statuses (slot_count h) i (good_delivered h s i is)) in
          on w.delivered-good.result _ _ _ c.requires.room c.loop-at-test.true (direct_good h s a i is)
          (w.delivered-good.ensures ∙ good-outcome h s a i is)
          (w.outage-is ∙ zero) (w.totals-is ∙ w.add-totals.ensures) (w.out-is ∙ w.put_slot.ensures)
      | else-is_good+else-agreed-at-eq0 w ↦
          let cause = sym c.is_good.ensures ∙ w.if-is_good.false in
          let zero = rw c.requires.direct.fitted.versions at w.outage_zero-outage.ensures in
          on w.by_agreement-settled.result _ _ _ c.requires.room c.loop-at-test.true
          (direct_agreed h s a i w.if-agreed-at-eq0.false)
          (w.by_agreement-settled.ensures ∙ agreed-outcome h s a i cause)
          (w.outage-is ∙ zero) (w.totals-is ∙ w.add-totals-else-is_good.ensures) (w.out-is ∙ w.put_slot-else-is_good.ensures)
    ]

pub returns : goal.returns
returns c =
    let end : c.loop-at.at ≡ c.args.to = omega (arith, c.loop-at.invariant.inside, c.loop-at-test.false) in
    rw end at (ran_end _ (lent (goal.at.returns c).At-loop-at) (settled (goal.at.returns c).At-loop-at) _ _ _ _ _ _ _ _ c.loop-at.invariant
    (λ l. absurd (absent l c.loop-at-test.false)))
