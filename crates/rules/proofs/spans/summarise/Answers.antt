-- `spans::summarise`. After k slots the outage answer and the line are those of the slot before, and the sums are those of k slots.
use mathlib.Core.Bool.{false}
use mathlib.Core.Path.{◌≡◌, refl, sym, ap, ◌∙◌}
use Prim.Native.Nat.{ℕ, ◌+◌, ◌-◌, ◌≤◌, ◌<◌, zero-le}
use native.Mathlib.Nat.{add-zero}
use native.Mathlib.Omega.{arith}
use Rattle.base.specs.Lists.{sum, any}
use Rattle.rules.specs.Opening.{Slots, Agreed, slot_count}
use Rattle.rules.specs.Tests.{good_at}
use Rattle.rules.specs.Lent.{slots_in, agreed_in}
use Rattle.rules.specs.Filling.{is_outage_zero, is_agreed, filled_at, shape_at}
use Rattle.rules.specs.Inner.Summaries.{summary_of, actual_added}
use Rattle.rules.proofs.Bounds.{Bounded, bounded, count_high}
use Rattle.rules.proofs.Directs.{none_direct, run_line, summary_run}
use Rattle.rules.proofs.Outages.{zero_on, zero_applies}
use Rattle.rules.proofs.Lines.{line_on, walk_outage, walk_line}
use Rattle.rules.proofs.Ruled.{line_drawn, ruled}
use Rattle.rules.proofs.Summaries.{summary_on, summary_fits}
use Rattle.rules.proofs.spans.summarise.Goals as goal
use Rattle.rules.proofs.spans.summarise.Goals.{After-outage_zero-outage, After-unscaled-shaped, At-loop-k, Else-at-run, In-loop-k}

abbrev lent : At-loop-k → Slots
lent c = let a = c.args in slots_in a.slots.now

abbrev settled : At-loop-k → Agreed
settled c = let a = c.args in agreed_in a.agreed.now

bounds : (c : At-loop-k) → Bounded c.args.head
bounds c = bounded c.args.head c.requires.0.fitted.head

-- the slot lies in the book
below : (c : In-loop-k) → c.args.first.at + c.loop-k.k < slot_count c.args.head
below c = omega (arith, c.loop-k-test.true, c.requires.2)

most : (c : At-loop-k) → slot_count c.args.head ≤ 115_200
most c = count_high c.args.head (bounds (goal.at.At-loop-k c).At-loop-k)

-- there is room for one slot more, or for a run of them
room : (c : At-loop-k) (x : ℕ) → let a = c.args in
    x ≡ shape_at a.head (lent (goal.at.At-loop-k c).At-loop-k) (settled (goal.at.At-loop-k c).At-loop-k) a.holidays.now
    (a.first.at + c.loop-k.k)
    → (c.loop-k.sum.actual ≤ 11_519_999_884_800) × (c.loop-k.sum.shapes ≤ 115_200_000_000) × (c.loop-k.sum.count ≤ 115_200)
    × (x ≤ 6_000_000)
room c x e =
    let a = c.args in
    summary_fits a.head (lent (goal.at.At-loop-k c).At-loop-k) (settled (goal.at.At-loop-k c).At-loop-k) a.holidays.now a.first.at
    c.loop-k.k (bounds (goal.at.At-loop-k c).At-loop-k) c.requires.1.low
    (omega (arith, c.loop-k.invariant.inside, c.requires.2)) _ x c.loop-k.invariant.known e

-- another slot than a direct one has a cause and is not agreed
cause : (c : Else-at-run) → let i = c.args.first.at + c.loop-k.k in
    (good_at c.args.head (lent (goal.at.Else-at-run c).At-loop-k) i ≡ false) ×
    (is_agreed (settled (goal.at.Else-at-run c).At-loop-k).versions i ≡ false)
cause c =
    let a = c.args in
    none_direct a.head (lent (goal.at.Else-at-run c).At-loop-k) (settled (goal.at.Else-at-run c).At-loop-k) _ _ _ _ c.add_up-run.ensures.0
    c.if-at-run.false
    (omega (arith, c.loop-k-test.true))

zeroed : (c : After-outage_zero-outage) → c.outage_zero-outage.result ≡ is_outage_zero c.args.head
    (lent (goal.at.After-outage_zero-outage c).At-loop-k) (c.args.first.at + c.loop-k.k)
zeroed c =
    c.outage_zero-outage.ensures ∙ zero_applies c.args.head (lent (goal.at.After-outage_zero-outage c).At-loop-k) _
    c.requires.0.fitted.versions _

-- what the rules give it
ruled_here : (c : After-unscaled-shaped) → let a = c.args in
    let i = a.first.at + c.loop-k.k in let r = c.unscaled-shaped.result in
    (r.outcome ≡ filled_at a.head (lent (goal.at.After-unscaled-shaped c).At-loop-k) (settled (goal.at.After-unscaled-shaped c).At-loop-k)
    a.holidays.now i)
    × (r.shape ≡ shape_at a.head (lent (goal.at.After-unscaled-shaped c).At-loop-k) (settled (goal.at.After-unscaled-shaped c).At-loop-k)
    a.holidays.now i)
ruled_here c =
    let a = c.args in
    ruled a.head (bounds (goal.at.After-unscaled-shaped c).At-loop-k) (lent (goal.at.After-unscaled-shaped c).At-loop-k)
    (settled (goal.at.After-unscaled-shaped c).At-loop-k) _ (below (goal.at.After-unscaled-shaped c).In-loop-k)
    (cause (goal.at.After-unscaled-shaped c).Else-at-run).0 (cause (goal.at.After-unscaled-shaped c).Else-at-run).1 _
    (zeroed (goal.at.After-unscaled-shaped c).After-outage_zero-outage) _ c.line_unagreed-line.ensures a.holidays.now _ _
    c.unscaled-shaped.ensures.0
    c.unscaled-shaped.ensures.1

pub loop-k-init : goal.loop-k-init
unfolding summary_of sum any
loop-k-init c =
    let a = c.args in
    let known = c.requires.3 in
    let s = slots_in a.slots.now in
    record {
      inside = zero-le;
      outage = rw add-zero (walk_outage a.head s a.agreed.now.versions.now a.first a.first.at known _ refl);
      line = rw add-zero (walk_line a.head s a.agreed.now.versions.now a.first a.first.at known);
      known = refl;
    }

pub add_actual-sum-requires : goal.add_actual-sum-requires
add_actual-sum-requires c =
    omega (
      arith,
      (room (goal.at.add_actual-sum-requires c).At-loop-k _ refl).0,
      c.add_up-run.ensures.2,
      c.add_up-run.ensures.0.inside,
      c.requires.2,
      most (goal.at.add_actual-sum-requires c).At-loop-k,
    )

pub loop-k-preserved-then-at-run : goal.loop-k-preserved-then-at-run
loop-k-preserved-then-at-run c =
    let a = c.args in
    let to = c.add_up-run.ensures.0 in
    let end = c.add_up-run.result.end in
    let k : a.first.at + (end - a.first.at) ≡ end = omega (arith, to.further) in
    record {
      inside = omega (arith, to.inside);
      outage = rw k to.outage;
      line =
          rw k (c.bare-line.ensures
          ∙ run_line a.head (lent (goal.at.loop-k-preserved-then-at-run c).At-loop-k)
          (settled (goal.at.loop-k-preserved-then-at-run c).At-loop-k) _ end to.direct c.if-at-run.true);
      known =
          c.add_actual-sum.ensures ∙ ap (actual_added c.loop-k.sum) c.add_up-run.ensures.1
          ∙ summary_run a.head (lent (goal.at.loop-k-preserved-then-at-run c).At-loop-k)
          (settled (goal.at.loop-k-preserved-then-at-run c).At-loop-k) _ end to.direct a.holidays.now a.first.at c.loop-k.k refl
          c.loop-k.sum
          c.loop-k.invariant.known (end - a.first.at) (sym k) to.further;
    }

pub line_unagreed-line-requires : goal.line_unagreed-line-requires
line_unagreed-line-requires c =
    let fitted = c.requires.0.fitted in (
      fitted,
      c.requires.1.versions,
      below (goal.at.line_unagreed-line-requires c).In-loop-k,
      (cause (goal.at.line_unagreed-line-requires c).Else-at-run).0,
      (cause (goal.at.line_unagreed-line-requires c).Else-at-run).1,
      zeroed (goal.at.line_unagreed-line-requires c).After-outage_zero-outage,
      c.loop-k.invariant.line,
    )

pub unscaled-shaped-requires : goal.unscaled-shaped-requires
unscaled-shaped-requires c =
    let slot = cause (goal.at.unscaled-shaped-requires c).Else-at-run in (
      c.requires.0,
      below (goal.at.unscaled-shaped-requires c).In-loop-k,
      line_drawn c.args.head (bounds (goal.at.unscaled-shaped-requires c).At-loop-k) (lent (goal.at.unscaled-shaped-requires c).At-loop-k)
          (settled (goal.at.unscaled-shaped-requires c).At-loop-k) _ (below (goal.at.unscaled-shaped-requires c).In-loop-k) slot.0 slot.1 _
          (zeroed (goal.at.unscaled-shaped-requires c).After-outage_zero-outage) _
          c.line_unagreed-line.ensures,
    )

pub add-sum-requires : goal.add-sum-requires
add-sum-requires c = room (goal.at.add-sum-requires c).At-loop-k _ (ruled_here (goal.at.add-sum-requires c).After-unscaled-shaped).1

pub loop-k-preserved : goal.loop-k-preserved
loop-k-preserved c =
    let a = c.args in
    let s = lent (goal.at.loop-k-preserved c).At-loop-k in
    let x = settled (goal.at.loop-k-preserved c).At-loop-k in
    let zero = rw c.requires.0.fitted.versions at c.outage_zero-outage.ensures in
    let found = ruled_here (goal.at.loop-k-preserved c).After-unscaled-shaped in
    record {
      inside = omega (arith, c.loop-k-test.true);
      outage = zero ∙ zero_on s.versions s.statuses (slot_count a.head) a.first.at c.loop-k.k;
      line = c.line_unagreed-line.ensures ∙ line_on a.head s x.versions a.first.at c.loop-k.k;
      known =
          summary_on a.head s x a.holidays.now a.first.at c.loop-k.k _ _ _ _ c.loop-k.invariant.known c.add-sum.ensures
          found.0 found.1;
    }
