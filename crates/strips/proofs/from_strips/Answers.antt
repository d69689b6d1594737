-- `from_strips`: after i turns the places of the first i slots hold what is laid of them.
use mathlib.Core.List.{List}
use mathlib.Core.Path.{◌≡◌, sym, ap, ◌∙◌}
use Prim.Native.Nat.{ℕ}
use native.Mathlib.Omega.{arith}
use borrow.Author.Rules.{rules}
use Rattle.std.proofs.lemmas.Result.{err_from_is_err_and}
use Rattle.strips.specs.Strips.{per_day, slots_of, table_of}
use Rattle.strips.specs.Inner.Laying.{restored_in, Sized}
use Rattle.strips.proofs.Passes.{table_none, table_next, table_all}
use Rattle.strips.proofs.Answers.{refuses, accepts_days, sized}
use Rattle.strips.proofs.from_strips.Goals as goal
use Rattle.strips.proofs.from_strips.Goals.{In_ok-n}

-- what an accepted call is given
lent : (c : In_ok-n) → Sized c.in_ok-n.n c.args.strips.now c.args.out.now
lent c = (sized c.args.interval c.args.strips.now c.args.out.now c.in_ok-n.n (sym c.slots_a_day.ensures ∙ c.in_ok-n.was)).1

pub returns-in_err-n : goal.returns-in_err-n
returns-in_err-n c =
    let a = c.args in
    let laid = table_of (per_day a.interval) a.strips.now in
    let f = refuses a.interval a.strips.now a.out.now laid _ (sym c.slots_a_day.ensures ∙ c.in_err-n.was) in
    let p = err_from_is_err_and c.from_residual.result c.from_residual.ensures.1 in
    rw (p.1, p.2) f

pub loop-i-init : goal.loop-i-init
loop-i-init c = table_none _ _ _

pub restore_slot-requires : goal.restore_slot-requires
restore_slot-requires c =
    let p = lent (goal.at.restore_slot-requires c).In_ok-n in
    record { sized = record { positive = p.positive; whole = p.whole; room = search rules }; inside = c.loop-i-test.true }

pub loop-i-preserved : goal.loop-i-preserved
loop-i-preserved c =
    let a = c.args in
    let n = c.in_ok-n.n in
    c.restore_slot.ensures
    ∙ ap (λ (x : List ℕ). restored_in n a.strips.now x c.loop-i.i) c.loop-i.invariant
    ∙ table_next n a.strips.now a.out.now (lent (goal.at.loop-i-preserved c).In_ok-n) c.loop-i.i c.loop-i-test.true

pub returns : goal.returns
returns c =
    let a = c.args in
    let n = c.in_ok-n.n in
    let (same, _) = sized a.interval a.strips.now a.out.now n (sym c.slots_a_day.ensures ∙ c.in_ok-n.was) in
    let done : c.loop-i.i ≡ slots_of a.strips.now = omega arith in
    accepts_days a.interval a.strips.now a.out.now _ _ n (sym c.slots_a_day.ensures ∙ c.in_ok-n.was)
    (c.loop-i.invariant
    ∙ table_all n a.strips.now a.out.now (lent (goal.at.returns c).In_ok-n) c.loop-i.i done
    ∙ ap (λ (x : ℕ). table_of x a.strips.now) same)
