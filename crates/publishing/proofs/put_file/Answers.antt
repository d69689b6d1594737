-- `put_file`: the trailer behind both tables ends the file.
use Rattle.base.proofs.Lists.{length_up_to}
use Rattle.publishing.proofs.Buffers.{file_put}
use mathlib.Core.Path.{◌≡◌}
use Prim.Native.Nat.{◌+◌, ◌*◌, ◌≤◌}
use native.Mathlib.Omega.{arith}
use lib.ListN.{length}
use Rattle.rules.specs.Opening.{slot_count}
use Rattle.rules.specs.Spans.{outcome_at, outcomes, spans}
use Rattle.rules.specs.Lent.{cells_in}
use Rattle.rules.proofs.Bounds.{bounded, count_high}
use Rattle.rules.proofs.Neighbours.{spans_few}
use Rattle.publishing.specs.Publishing.{file_length}
use Rattle.publishing.proofs.Totals.{filled_low, figures_found}
use Rattle.publishing.proofs.put_file.Goals as goal

pub slot_count-table-requires : goal.slot_count-table-requires
slot_count-table-requires c = c.requires.0.whole.lent.fitted.head

pub overflow_mul-table : goal.overflow_mul-table
overflow_mul-table c =
    let w = bounded c.args.head c.requires.0.whole.lent.fitted.head in
    omega (arith, c.slot_count-table.ensures, count_high c.args.head w)

pub put_tables-found-requires : goal.put_tables-found-requires
put_tables-found-requires c = (c.requires.0, rw c.slot_count-table.ensures)

pub first_day-requires : goal.first_day-requires
first_day-requires c = c.requires.0.whole.lent.fitted.head

pub overflow_cast-g : goal.overflow_cast-g
overflow_cast-g c =
    let a = c.args in
    let w = bounded a.head c.requires.0.whole.lent.fitted.head in
    let b = cells_in a.cells.now in
    omega (arith, c.requires.1, spans_few a.head b, w.days_high)

pub overflow_add-g : goal.overflow_add-g
overflow_add-g c =
    let a = c.args in
    let w = bounded a.head c.requires.0.whole.lent.fitted.head in
    let b = cells_in a.cells.now in
    omega (
      arith,
      filled_low a.head b c.put_tables-found.result c.put_tables-found.ensures.0 w,
    )

pub overflow_mul-spans : goal.overflow_mul-spans
overflow_mul-spans c =
    let a = c.args in
    let w = bounded a.head c.requires.0.whole.lent.fitted.head in
    let b = cells_in a.cells.now in
    omega (arith, c.requires.1, spans_few a.head b, w.days_high)

pub overflow_add-table : goal.overflow_add-table
overflow_add-table c =
    let a = c.args in
    let w = bounded a.head c.requires.0.whole.lent.fitted.head in
    let b = cells_in a.cells.now in
    omega (
      arith,
      c.requires.1,
      spans_few a.head b,
      w.days_high,
      c.slot_count-table.ensures,
      count_high a.head w,
    )

pub put_trailer-requires : goal.put_trailer-requires
put_trailer-requires c =
    omega (arith, c.requires.0.room, c.requires.1, c.slot_count-table.ensures)

pub returns : goal.returns
unfolding file_length outcomes
returns c =
    let a = c.args in
    let w = bounded a.head c.requires.0.whole.lent.fitted.head in
    let b = cells_in a.cells.now in
    let f = figures_found a.head b c.put_tables-found.result c.put_tables-found.ensures.0
    c.first_day.result a.spans c.first_day.ensures c.requires.1 in
    let l : file_length a.head b ≤ length a.out.now =
    omega (arith, c.requires.0.room, length_up_to (outcome_at a.head b) 0 (slot_count a.head)) in
    let p : 6 * c.slot_count-table.result + 14 * a.spans
    ≡ 6 * slot_count a.head + 14 * length (spans a.head b) =
    simp (c.slot_count-table.ensures, c.requires.1) in
    file_put a.head b w a.out.now _ _ _ _ l c.put_tables-found.ensures.1 p f c.put_trailer.ensures
