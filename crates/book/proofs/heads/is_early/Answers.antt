-- `heads::is_early`: 400 days from any day before 2098 end in time, so no day number is needed.
use mathlib.Core.Bool.{Bool, true, ◌&&◌}
use mathlib.Core.Path.{◌≡◌, sym, ◌∙◌}
use Prim.Native.Nat.{◌+◌, ◌≤◌, ◌<◌}
use native.Mathlib.Omega.{arith}
use lib.Dec.{leb}
use borrow.Author.Tests.{le-leb, leb-true}
use Rattle.base.proofs.Logic.{and_parts}
use Rattle.calendar.specs.Calendar.{is_date}
use Rattle.calendar.proofs.Dates.{early_day}
use Rattle.rules.specs.declared.Head.{Head}
use Rattle.rules.specs.Opening.{first_day, interval_ok, head_ok}
use Rattle.book.proofs.heads.is_early.Goals as goal

ends : (h : Head) → h.year < 2098 → is_date h.year h.month h.day ≡ true → h.days ≤ 400 → first_day h + h.days ≤ 36_525
unfolding first_day
ends h y d l = omega (arith, early_day _ _ _ d y)

-- the tests of days, limit and tolerance, as the code joins them
module _ (low high least most near : Bool) (e : (((low && high) && (least && most)) && near) ≡ true) where
  four : (low && high) ≡ true × (least && most) ≡ true
  four = and_parts (low && high) (least && most) (and_parts ((low && high) && (least && most)) near e).0

  all-five : (low ≡ true) × (high ≡ true) × (least ≡ true) × (most ≡ true) × (near ≡ true)
  all-five =
      let (l, h) = and_parts low high four.0 in
      let (m, n) = and_parts least most four.1 in
      (l, h, m, n, (and_parts ((low && high) && (least && most)) near e).1)

early : (h : Head) → h.year < 2098 → is_date h.year h.month h.day ≡ true → interval_ok h.interval ≡ true
    → (((leb 1 h.days && leb h.days 400) && (leb 1 h.limit && leb h.limit 1_000_000)) && leb h.tolerance 1_000_000) ≡ true
    → head_ok h ≡ true
unfolding head_ok
early h y date interval e =
    let (low, high, least, most, near) =
    all-five (leb 1 h.days) (leb h.days 400) (leb 1 h.limit) (leb h.limit 1_000_000) (leb h.tolerance 1_000_000) e in
    rw (interval, date, low, high, le-leb _ _ (ends h y date (leb-true _ _ high)), least, most, near)

pub returns : goal.returns
returns c =
    early c.args.head (omega arith)
    (sym c.is_date.ensures ∙ c.if-not-is_date.false)
    (sym c.is_interval.ensures ∙ c.if-not-is_interval.false)
