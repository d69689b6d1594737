-- `naming::slot_at`: a moment that is given a slot lies in one of the book's days.
use Prim.Native.Nat.{◌-◌, ◌<◌}
use mathlib.Core.Path.{sym, ◌∙◌}
use native.Mathlib.Omega.{arith}
use borrow.Author.Tests.{le-leb, lt-ltb}
use Rattle.rules.specs.Opening.{first_day, slots_per_day}
use Rattle.explain.specs.Naming.{slot_named}
use Rattle.explain.proofs.naming.slot_at.Goals as goal

pub returns : goal.returns
unfolding slot_named slots_per_day
returns c =
    let h = c.args.head in
    let m = c.args.moment in
    let l : m.day - first_day h < h.days = omega (arith, c.first_day-first.ensures, c.if-head-day.false) in
    rw (
      sym c.head_ok.ensures ∙ c.if-not-head_ok.false,
      le-leb _ _ (simp c.first_day-first.ensures at c.if-moment-first.false),
      lt-ltb _ _ l,
      lt-ltb _ _ c.if-moment-ge1440.false,
      c.first_day-first.ensures,
    )
