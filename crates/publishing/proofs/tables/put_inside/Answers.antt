-- `tables::put_inside`. Before each turn what is known and written is that of the slots so far, inside the stretch.
use mathlib.Core.Bool.{false}
use mathlib.Core.Path.{◌≡◌, refl, sym, ap, ◌∙◌}
use Prim.Native.Nat.{◌+◌, ◌*◌, ◌≤◌, ◌<◌}
use native.Mathlib.Nat.{le_refl}
use native.Mathlib.Omega.{arith}
use lib.ListN.{length}
use Rattle.rules.specs.declared.stretch.Stretch.{Stretch}
use Rattle.rules.specs.Opening.{Cells, slot_count}
use Rattle.rules.specs.Lent.{cells_in}
use Rattle.rules.specs.Tests.{good_at}
use Rattle.rules.specs.Spans.{spans}
use Rattle.rules.specs.Filling.{is_outage_zero, is_agreed, filled_at, shape_at}
use Rattle.rules.proofs.Bounds.{Bounded, bounded, count_high}
use Rattle.rules.proofs.Directs.{run_line, none_direct}
use Rattle.rules.proofs.Lines.{walk_outage, walk_line}
use Rattle.rules.proofs.Outages.{zero_applies}
use Rattle.rules.proofs.Ruled.{line_drawn, ruled}
use Rattle.rules.proofs.Steps.{step_scalable}
use Rattle.rules.proofs.Stretches.{stretch_ahead}
use Rattle.file.specs.Layout.{row, slot_row}
use Rattle.file.specs.Inner.Writing.{written}
use Rattle.publishing.proofs.Inside.{inside_next, inside_run, run_countable, passed}
use Rattle.publishing.proofs.Records.{none_put}
use Rattle.publishing.proofs.Totals.{countable}
use Rattle.publishing.proofs.tables.put_inside.Goals as goal
use Rattle.publishing.proofs.tables.put_inside.Goals.{After-outage_zero-outage, After-unscaled-shaped, At-loop-at, Else-at-put}
use Rattle.publishing.proofs.tables.put_inside.Goals.{In-loop-at, Start}

abbrev lent : Start → Cells
lent c =
    let a = c.args in
    cells_in a.cells.now

bounds : (c : Start) → Bounded c.args.head
bounds c = bounded c.args.head c.requires.roomy.whole.lent.fitted.head

-- the stretch ends behind its first slot, and in the book
ahead : (c : Start) → let a = c.args in
    (a.from.pass.walk.at < a.from.pass.stretch.until) × (a.from.pass.stretch.until ≤ slot_count a.head)
ahead c =
    let a = c.args in
    rw (ap (λ (s : Stretch). s.until) c.requires.stretch)
    (stretch_ahead a.head (bounds (goal.at.Start c).Start) (lent (goal.at.Start c).Start) a.from.pass.walk.at c.requires.inside)

room : (c : Start)
    → 6 * slot_count c.args.head + 14 * length (spans c.args.head (lent (goal.at.Start c).Start)) ≤ length c.args.out.now
room c = omega (arith, c.requires.roomy.room)

below : (c : In-loop-at) → c.loop-at.at < slot_count c.args.head
below c = omega (arith, c.loop-at-test.true, (ahead (goal.at.In-loop-at c).Start).1)

most : (c : At-loop-at) → slot_count c.args.head ≤ 115_200
most c = count_high c.args.head (bounds (goal.at.At-loop-at c).Start)

-- another slot than a direct one has a cause and is not agreed
cause : (c : Else-at-put) → let b = lent (goal.at.Else-at-put c).Start in
    (good_at c.args.head b.slots c.loop-at.at ≡ false) × (is_agreed b.agreed.versions c.loop-at.at ≡ false)
cause c =
    none_direct c.args.head (lent (goal.at.Else-at-put c).Start).slots (lent (goal.at.Else-at-put c).Start).agreed _ _ _ _
    c.put_direct-put.ensures.direct
    c.if-at-put.false
    c.loop-at-test.true

zeroed : (c : After-outage_zero-outage) → c.outage_zero-outage.result ≡ is_outage_zero c.args.head
    (lent (goal.at.After-outage_zero-outage c).Start).slots c.loop-at.at
zeroed c =
    c.outage_zero-outage.ensures ∙ zero_applies c.args.head (lent (goal.at.After-outage_zero-outage c).Start).slots _
    c.requires.roomy.whole.lent.fitted.versions _

-- what the rules give it
ruled_here : (c : After-unscaled-shaped) → let b = lent (goal.at.After-unscaled-shaped c).Start in
    let r = c.unscaled-shaped.result in
    (r.outcome ≡ filled_at c.args.head b.slots b.agreed b.holidays c.loop-at.at)
    × (r.shape ≡ shape_at c.args.head b.slots b.agreed b.holidays c.loop-at.at)
ruled_here c =
    let b = lent (goal.at.After-unscaled-shaped c).Start in
    ruled c.args.head (bounds (goal.at.After-unscaled-shaped c).Start) b.slots b.agreed _
    (below (goal.at.After-unscaled-shaped c).In-loop-at) (cause (goal.at.After-unscaled-shaped c).Else-at-put).0
    (cause (goal.at.After-unscaled-shaped c).Else-at-put).1 _ (zeroed (goal.at.After-unscaled-shaped c).After-outage_zero-outage)
    _ c.line_unagreed-line.ensures b.holidays _ _ c.unscaled-shaped.ensures.0 c.unscaled-shaped.ensures.1

pub loop-at-init : goal.loop-at-init
loop-at-init c =
    let a = c.args in
    let b = lent (goal.at.loop-at-init c).Start in
    let i = a.from.pass.walk.at in
    record {
      further = le_refl _;
      inside = omega (arith, (ahead (goal.at.loop-at-init c).Start).0);
      outage = walk_outage a.head b.slots b.agreed.versions a.from.pass.walk i c.requires.walk _ refl;
      line = walk_line a.head b.slots b.agreed.versions a.from.pass.walk i c.requires.walk;
      end = refl;
      stretch = λ l. c.requires.stretch;
      carried = λ l. absurd (omega arith);
      begun = λ l. absurd (omega arith);
      totals = c.requires.totals;
      long = refl;
      bytes = λ x n e. e;
    }

pub put_direct-put-requires : goal.put_direct-put-requires
put_direct-put-requires c =
    let held = c.loop-at.invariant in
    let whole = c.requires.roomy.whole in
    record {
      direct =
          record {
            fitted = whole.lent.fitted;
            settled = whole.settled;
            ordered = held.inside;
            inside = (ahead (goal.at.put_direct-put-requires c).Start).1;
            outage = held.outage;
          };
      room = omega (arith, (ahead (goal.at.put_direct-put-requires c).Start).1, room (goal.at.put_direct-put-requires c).Start, held.long);
      countable =
          run_countable c.args.head (bounds (goal.at.put_direct-put-requires c).Start) (lent (goal.at.put_direct-put-requires c).Start) _ _
          _ (ahead (goal.at.put_direct-put-requires c).Start).1 (room (goal.at.put_direct-put-requires c).Start) _ _ _ _ _ _ held
          whole.settled.low
          whole.widths.low;
    }

pub loop-at-smaller-then-at-put : goal.loop-at-smaller-then-at-put
loop-at-smaller-then-at-put c =
    omega (arith, c.if-at-put.true, c.loop-at-test.true, c.put_direct-put.ensures.direct.inside)

pub loop-at-preserved-then-at-put : goal.loop-at-preserved-then-at-put
loop-at-preserved-then-at-put c =
    let b = lent (goal.at.loop-at-preserved-then-at-put c).Start in
    let done = c.put_direct-put.ensures in
    let to = done.direct in
    inside_run c.args.head (bounds (goal.at.loop-at-preserved-then-at-put c).Start) b _ _ _
    (ahead (goal.at.loop-at-preserved-then-at-put c).Start).1 (room (goal.at.loop-at-preserved-then-at-put c).Start) _ _ _ _ _ _
    c.loop-at.invariant _ _ _ _ _ to.further to.inside
    to.direct to.outage
    (c.bare-line.ensures ∙ run_line c.args.head b.slots b.agreed _ _ to.direct c.if-at-put.true)
    done.totals done.bytes

pub outage_zero-outage-requires : goal.outage_zero-outage-requires
outage_zero-outage-requires c =
    let fitted = c.requires.roomy.whole.lent.fitted in (
      fitted.statuses ∙ sym fitted.versions,
      omega (arith, below (goal.at.outage_zero-outage-requires c).In-loop-at, fitted.versions),
      rw fitted.versions c.loop-at.invariant.outage,
    )

pub line_unagreed-line-requires : goal.line_unagreed-line-requires
line_unagreed-line-requires c =
    let whole = c.requires.roomy.whole in (
      whole.lent.fitted,
      whole.settled.versions,
      below (goal.at.line_unagreed-line-requires c).In-loop-at,
      (cause (goal.at.line_unagreed-line-requires c).Else-at-put).0,
      (cause (goal.at.line_unagreed-line-requires c).Else-at-put).1,
      zeroed (goal.at.line_unagreed-line-requires c).After-outage_zero-outage,
      c.loop-at.invariant.line,
    )

pub unscaled-shaped-requires : goal.unscaled-shaped-requires
unscaled-shaped-requires c = (
  c.requires.roomy.whole.lent,
  below (goal.at.unscaled-shaped-requires c).In-loop-at,
  line_drawn c.args.head (bounds (goal.at.unscaled-shaped-requires c).Start) (lent (goal.at.unscaled-shaped-requires c).Start).slots
      (lent (goal.at.unscaled-shaped-requires c).Start).agreed _ (below (goal.at.unscaled-shaped-requires c).In-loop-at)
      (cause (goal.at.unscaled-shaped-requires c).Else-at-put).0 (cause (goal.at.unscaled-shaped-requires c).Else-at-put).1 _
      (zeroed (goal.at.unscaled-shaped-requires c).After-outage_zero-outage) _ c.line_unagreed-line.ensures,
)

pub fit-fitted-requires : goal.fit-fitted-requires
fit-fitted-requires c =
    step_scalable c.args.head (bounds (goal.at.fit-fitted-requires c).Start) (lent (goal.at.fit-fitted-requires c).Start) c.loop-at.at _ _ _
    (c.loop-at.invariant.stretch c.loop-at-test.true)
    (ruled_here (goal.at.fit-fitted-requires c).After-unscaled-shaped).0
    (ruled_here (goal.at.fit-fitted-requires c).After-unscaled-shaped).1 c.requires.roomy.whole.widths.low

pub overflow_mul-at : goal.overflow_mul-at
overflow_mul-at c = omega (arith, below (goal.at.overflow_mul-at c).In-loop-at, most (goal.at.overflow_mul-at c).At-loop-at)

pub put_slot-requires : goal.put_slot-requires
put_slot-requires c =
    omega (
      arith,
      below (goal.at.put_slot-requires c).In-loop-at,
      room (goal.at.put_slot-requires c).Start,
      c.loop-at.invariant.long,
      c.put_direct-put.auto.out,
    )

pub add-totals-requires : goal.add-totals-requires
add-totals-requires c =
    let whole = c.requires.roomy.whole in
    countable c.args.head (lent (goal.at.add-totals-requires c).Start) c.loop-at.at (bounds (goal.at.add-totals-requires c).Start)
    whole.settled.low whole.widths.low
    (omega (arith, below (goal.at.add-totals-requires c).In-loop-at)) _
    c.loop-at.invariant.totals

pub overflow_add-at : goal.overflow_add-at
overflow_add-at c = omega (arith, below (goal.at.overflow_add-at c).In-loop-at, most (goal.at.overflow_add-at c).At-loop-at)

pub loop-at-smaller : goal.loop-at-smaller
loop-at-smaller c = omega (arith, c.loop-at-test.true)

pub loop-at-preserved : goal.loop-at-preserved
loop-at-preserved c =
    let b = lent (goal.at.loop-at-preserved c).Start in
    let h = c.args.head in
    let i = c.loop-at.at in
    let none = none_put h b.slots b.agreed _ _ _ _ _ _ c.put_direct-put.ensures c.if-at-put.false in
    let fit = c.fit-fitted.ensures in
    let zero = rw c.requires.roomy.whole.lent.fitted.versions at c.outage_zero-outage.ensures in
    inside_next h (bounds (goal.at.loop-at-preserved c).Start) b _ _ _ (ahead (goal.at.loop-at-preserved c).Start).1 _ _ _ _ _ i
    c.loop-at.invariant c.loop-at-test.true _ _ (ruled_here (goal.at.loop-at-preserved c).After-unscaled-shaped).0
    (ruled_here (goal.at.loop-at-preserved c).After-unscaled-shaped).1 _ _ _ _ _ _ zero c.line_unagreed-line.ensures
    (room (goal.at.loop-at-preserved c).Start) fit.0 fit.1 c.add-totals.ensures
    (c.put_slot.ensures ∙ (λ t. written (none t) (6 * i) (row (slot_row c.fit-fitted.result.outcome))))

pub shape_of-out : goal.shape_of-out
shape_of-out c = c.loop-at.invariant.long

pub returns : goal.returns
returns c =
    let held = c.loop-at.invariant in
    let ends = (ahead (goal.at.returns c).Start).0 in
    let later : c.args.from.pass.walk.at < c.loop-at.at = omega (arith, ends, c.loop-at-test.false, held.inside) in
    record {
      further = later;
      inside = omega (arith, held.inside, (ahead (goal.at.returns c).Start).1);
      pass = passed c.args.head (lent (goal.at.returns c).Start) _ _ _ _ _ _ _ _ _ held ends c.loop-at-test.false;
      spans = refl;
      begun = held.begun later;
      totals = held.totals;
      bytes = held.bytes;
    }
