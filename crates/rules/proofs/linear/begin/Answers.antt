-- `linear::begin` looks at the slot before the run and for the one after it.
use mathlib.Core.Path.{sym, ◌∙◌}
use Prim.Native.Nat.{◌+◌, ◌<◌}
use native.Mathlib.Omega.{arith}
use Rattle.rules.specs.Opening.{slot_count}
use Rattle.rules.specs.Lent.{slots_in}
use Rattle.rules.proofs.Bounds.{bounded, count_high}
use Rattle.rules.proofs.Lines.{line_first_slot, line_no_left, line_no_right, line_ends, line_found}
use borrow.Author.Rules.{rules}
use Rattle.rules.proofs.linear.begin.Goals as goal
use Rattle.rules.proofs.linear.begin.Goals.{Else-length-eq0}

-- a slot follows the run
inside : (c : Else-length-eq0) → c.args.at + c.length_within-length.result < slot_count c.args.head
inside c =
    line_ends c.args.head (slots_in c.args.slots.now)
    c.args.agreed_versions.now c.args.at c.requires.2 c.requires.3 c.requires.4 c.if-at-lt1.false
    (sym c.is_good.ensures ∙ c.if-not-is_good.false) c.length_within-length.result
    c.length_within-length.ensures c.if-length-eq0.false

pub returns-then-at-lt1 : goal.returns-then-at-lt1
returns-then-at-lt1 c =
    let a = c.args in
    c.bare.ensures ∙ line_first_slot a.head (slots_in a.slots.now) a.agreed_versions.now
    a.at c.requires.2 c.requires.3 c.requires.4 c.if-at-lt1.true

pub returns-then-not-is_good : goal.returns-then-not-is_good
returns-then-not-is_good c =
    let a = c.args in
    c.bare-then-not-is_good.ensures ∙ line_no_left a.head (slots_in a.slots.now) a.agreed_versions.now
    a.at c.requires.2 c.requires.3 c.requires.4 c.if-at-lt1.false
    (sym c.is_good.ensures ∙ c.if-not-is_good.true)

pub returns-then-length-eq0 : goal.returns-then-length-eq0
returns-then-length-eq0 c =
    let a = c.args in
    c.bare-then-length-eq0.ensures ∙ line_no_right a.head (slots_in a.slots.now) a.agreed_versions.now
    a.at c.requires.2 c.requires.3 c.requires.4 c.if-at-lt1.false
    (sym c.is_good.ensures ∙ c.if-not-is_good.false) c.length_within-length.result
    c.length_within-length.ensures c.if-length-eq0.true

pub overflow_add-after : goal.overflow_add-after
overflow_add-after c = omega (arith, inside (goal.at.overflow_add-after c).Else-length-eq0)

pub overflow_cast-result : goal.overflow_cast-result
overflow_cast-result c =
    let b = count_high _ (bounded _ c.requires.0.head) in
    record { fits = omega (arith, inside (goal.at.overflow_cast-result c).Else-length-eq0) }

pub offset_bounds-slots-after : goal.offset_bounds-slots-after
offset_bounds-slots-after c = let l = inside (goal.at.offset_bounds-slots-after c).Else-length-eq0 in search rules

pub bounds-slots-after : goal.bounds-slots-after
bounds-slots-after c = omega (arith, inside (goal.at.bounds-slots-after c).Else-length-eq0)

pub returns : goal.returns
returns c =
    let a = c.args in
    line_found a.head (slots_in a.slots.now) a.agreed_versions.now a.at c.requires.2
    c.requires.3 c.requires.4 c.if-at-lt1.false
    (sym c.is_good.ensures ∙ c.if-not-is_good.false)
    c.length_within-length.result c.length_within-length.ensures c.if-length-eq0.false
