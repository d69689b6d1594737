-- The slot that a day and a time of day name.
use Rattle.std.specs.Prelude.{cond, ℕ, ◌+◌, ◌-◌, ◌*◌, ◌/◌, leb, ltb, Option, Some, None}
use Rattle.rules.specs.declared.Head.{Head}
use Rattle.rules.specs.Opening.{head_ok, first_day, slots_per_day}
use Rattle.explain.specs.declared.naming.Moment.{Moment}

-- "a time inside a slot names the slot": that of the day's place in the book and of the minute's interval
unfoldable pub slot_named : Head → Moment → Option ℕ
slot_named h m =
    cond (head_ok h)
    (cond (leb (first_day h) m.day)
    (cond (ltb (m.day - first_day h) h.days)
    (cond (ltb m.minute 1440) (Some ((m.day - first_day h) * slots_per_day h + m.minute / h.interval)) None)
    None)
    None)
    None
