-- `days_before_month` reads an entry of the table.
use mathlib.Core.Bool.{Bool, true, false}
use Prim.Native.Nat.{◌<◌, ◌-◌}
use native.Mathlib.Omega.{arith}
use lib.Dec.{lit<}
use mir.Val.{bool_byte}
use Rattle.calendar.proofs.Starts.{each_entry}
use Rattle.calendar.proofs.days_before_month.Goals as goal

row_high : (b : Bool) → bool_byte b < 2
row_high true = lit< tt
row_high false = lit< tt

pub offset_bounds-row : goal.offset_bounds-row
offset_bounds-row c = record { fits = omega (arith, row_high c.is_leap-row.result) }

pub bounds-row : goal.bounds-row
bounds-row c = row_high c.is_leap-row.result

pub returns : goal.returns
returns c =
    let a = c.args in
    let h : a.month - 1 < 12 = omega arith in
    rw c.is_leap-row.ensures (each_entry a.year (a.month - 1) h)
