-- `direct::add_up`. Before each slot the sum is that of the direct slots so far.
use mathlib.Core.Bool.{false}
use mathlib.Core.Path.{◌≡◌, sym, ◌∙◌}
use Prim.Native.Nat.{ℕ, ◌-◌, ◌≤◌, ◌<◌, zero-le}
use native.Mathlib.Nat.{le_refl}
use native.Mathlib.Omega.{arith}
use mir.Val.{Fits}
use mir.Syntax.{w32}
use lib.ListN.{get_or}
use borrow.Author.Rules.{rules}
use Rattle.base.specs.Lists.{sum}
use Rattle.rules.specs.Opening.{Slots, Agreed, slot_count}
use Rattle.rules.specs.Lent.{slots_in, agreed_in}
use Rattle.rules.proofs.Bounds.{bounded, count_high}
use Rattle.rules.proofs.Directs.{direct_good, direct_agreed, direct_none, good_value, agreed_value, summed_on, summed_end}
use Rattle.rules.proofs.Outages.{zero_none, good_delivered}
use Rattle.rules.proofs.direct.add_up.Goals as goal
use Rattle.rules.proofs.direct.add_up.Goals.{At-loop-at, In-loop-at, then-is_good, else-is_good+else-agreed-at-eq0}

abbrev lent : At-loop-at → Slots
lent c = let a = c.args in slots_in a.slots.now

abbrev settled : At-loop-at → Agreed
settled c = let a = c.args in agreed_in a.agreed.now

absent : {i from : ℕ} → i < from → from ≤ i → ⊥
absent l m = omega arith

-- the slot lies in the book
below : (c : In-loop-at) → c.loop-at.at < slot_count c.args.head
below c = omega (arith, c.loop-at-test.true, c.requires.inside)

most : (c : At-loop-at) → slot_count c.args.head ≤ 115_200
most c = count_high c.args.head (bounded c.args.head c.requires.fitted.head)

pub loop-at-init : goal.loop-at-init
unfolding sum
loop-at-init c =
    let pre = c.requires in
    let none : c.args.from - c.args.from ≡ 0 = omega arith in
    record {
      further = le_refl _;
      inside = pre.ordered;
      direct = λ i l m. absurd (absent l m);
      outage = pre.outage;
      total = rw none;
      low = zero-le;
    }

pub overflow_add-sum : goal.overflow_add-sum
overflow_add-sum c =
    let low : Fits w32 (get_or c.args.slots.now.values.now c.loop-at.at 0) = search rules in
    omega (
      arith,
      low,
      c.loop-at.invariant.low,
      below (goal.at.overflow_add-sum c).In-loop-at,
      most (goal.at.overflow_add-sum c).At-loop-at,
    )

pub overflow_add-sum-else-is_good : goal.overflow_add-sum-else-is_good
overflow_add-sum-else-is_good c =
    let low : Fits w32 (get_or c.args.agreed.now.values.now c.loop-at.at 0) = search rules in
    omega (
      arith,
      low,
      c.loop-at.invariant.low,
      below (goal.at.overflow_add-sum-else-is_good c).In-loop-at,
      most (goal.at.overflow_add-sum-else-is_good c).At-loop-at,
    )

pub returns-then-agreed-at-eq0 : goal.returns-then-agreed-at-eq0
returns-then-agreed-at-eq0 c =
    let cause = sym c.is_good.ensures ∙ c.if-is_good.false in
    summed_end _ (lent (goal.at.returns-then-agreed-at-eq0 c).At-loop-at)
    (settled (goal.at.returns-then-agreed-at-eq0 c).At-loop-at) _ _ _ _ _ c.loop-at.invariant
    (λ l. direct_none _ _ (settled (goal.at.returns-then-agreed-at-eq0 c).At-loop-at) _ cause c.if-agreed-at-eq0.true)

pub loop-at-preserved : goal.loop-at-preserved
loop-at-preserved c =
    let h = c.args.head in
    let s = lent (goal.at.loop-at-preserved c).At-loop-at in
    let a = settled (goal.at.loop-at-preserved c).At-loop-at in
    let i = c.loop-at.at in
    let on = summed_on h s a _ _ _ _ i c.loop-at.invariant in
    elim c.if-is_good.branch [
      | then-is_good w ↦
          let good = sym c.is_good.ensures ∙ w.if-is_good.true in
          let zero = sym (zero_none s.versions s.statuses (slot_count h) i (good_delivered h s i good)) in
          let low : Fits w32 (get_or s.values i 0) = search rules in
          rw (w.sum-is, w.outage-is) (on _ false c.loop-at-test.true (direct_good h s a i good) (good_value h s a i good)
          (omega (arith, low)) zero)
      | else-is_good+else-agreed-at-eq0 w ↦
          let cause = sym c.is_good.ensures ∙ w.if-is_good.false in
          let zero = rw c.requires.fitted.versions at w.outage_zero-outage.ensures in
          let low : Fits w32 (get_or a.values i 0) = search rules in
          rw (w.sum-is, w.outage-is) (on _ _ c.loop-at-test.true (direct_agreed h s a i w.if-agreed-at-eq0.false)
          (agreed_value h s a i cause) (omega (arith, low)) zero)
    ]
