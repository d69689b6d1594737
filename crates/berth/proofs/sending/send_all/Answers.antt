-- `sending::send_all`: before each slot the berth, the lists and the true total are those of the steps so far.
use borrow.Author.Rules.{rules}
use native.Mathlib.Omega.{arith}
use Rattle.berth.proofs.Sends.{slots_high, send_first, total_high, send_next, send_last}
use Rattle.berth.proofs.sending.send_all.Goals as goal

pub overflow_cast-count : goal.overflow_cast-count
overflow_cast-count c = record { fits = omega (arith, c.slot_count-count.ensures, slots_high _ c.requires) }

pub loop-slot-init : goal.loop-slot-init
loop-slot-init c =
    record {
      under = send_first _ _ _ _ _ c.new-berth.ensures;
      same = search rules;
    }

pub overflow_add-total : goal.overflow_add-total
overflow_add-total c =
    let on = send_next _ _ _ _ _ _ _ _ c.loop-slot.invariant.under _ _ _
    (omega (arith, c.slot_count-count.ensures, c.loop-slot-test.true)) c.most_of-most.ensures
    c.step-berth.ensures c.send.ensures.told in
    record { fits = omega (arith, total_high _ _ _ _ _ _ _ _ on c.requires) }

pub loop-slot-preserved : goal.loop-slot-preserved
loop-slot-preserved c =
    record {
      under = send_next _ _ _ _ _ _ _ _ c.loop-slot.invariant.under _ _ _
          (omega (arith, c.slot_count-count.ensures, c.loop-slot-test.true))
          c.most_of-most.ensures c.step-berth.ensures c.send.ensures.told;
      same = search rules;
    }

pub returns-clause-told : goal.returns-clause-told
returns-clause-told c =
    send_last _ _ _ _ _ _ _ _ c.loop-slot.invariant.under
    (omega (arith, c.slot_count-count.ensures, c.loop-slot-test.false))
