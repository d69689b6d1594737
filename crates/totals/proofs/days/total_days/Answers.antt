-- `days::total_days`: before day d the totals are those of the days before it.
use mathlib.Core.Path.{◌≡◌, sym, ap, ◌∙◌}
use native.Mathlib.Nat.{mul-le-mul}
use native.Mathlib.Omega.{arith}
use borrow.Author.Rules.{rules}
use lib.ListN.{length}
use Rattle.file.specs.Contents.{Bytes}
use Rattle.totals.proofs.Adding.{day_within, before_none, before_length, before_next, before_room}
use Rattle.totals.proofs.days.total_days.Goals as goal

pub loop-day-init : goal.loop-day-init
loop-day-init c = c.fill.ensures.after (λ y e. e) ∙ before_none _ _ _ c.args.totals.now c.requires.1

pub overflow_mul-day : goal.overflow_mul-day
overflow_mul-day c =
    let l = c.loop-day in
    let fit = c.requires.0 in
    omega (arith, day_within c.args.n l.day c.args.days (search rules), mul-le-mul fit.day fit.few)

pub sum_of-energy-requires : goal.sum_of-energy-requires
sum_of-energy-requires c =
    let l = c.loop-day in
    let fit = c.requires.0 in
    (omega (arith, day_within c.args.n l.day c.args.days (search rules), fit.long), fit.day)

pub add_day-requires : goal.add_day-requires
add_day-requires c =
    let l = c.loop-day in
    let a = c.args in
    let fit = c.requires.0 in
    let bytes : Bytes a.file.now = λ i. omega (arith, c.type_inv.file i) in
    before_room a.file.now a.n a.pairs.now bytes fit.day l.day (omega arith) l.totals l.invariant _
    c.sum_of-energy.ensures.1

pub loop-day-preserved : goal.loop-day-preserved
loop-day-preserved c =
    let l = c.loop-day in
    let a = c.args in
    before_next a.file.now a.n a.pairs.now l.day _ l.totals _ c.sum_of-energy.ensures.0 l.invariant c.add_day.ensures

pub shape_of-totals : goal.shape_of-totals
shape_of-totals c = ap length c.loop-day.invariant ∙ before_length _ _ _ _ ∙ sym c.requires.1

pub returns : goal.returns
returns c =
    let done : c.loop-day.day ≡ c.args.days = omega arith in rw done at c.loop-day.invariant
