-- `sending::send_all`: before each slot the berth, the lists and the true total are those of the steps so far.
use Rattle.rules.specs.declared.Head.{Head}
use Rattle.book.specs.declared.lent.SlotsMut.{SlotsMut}
use Rattle.book.specs.Written.{SameSlots}
use Rattle.berth.specs.declared.generator.Berth.{Berth}
use Rattle.berth.specs.Inner.Sending.{written_sent}
use mathlib.Core.List.{List}
use Prim.Native.Nat.{ℕ}
use Rattle.berth.proofs.Sends.{Under}
use Rattle.berth.proofs.sending.send_all.Given as goal

pub record Held (head : Head) (seed loss : ℕ) (slots₀ : SlotsMut) (counts₀ : List ℕ) (slots : SlotsMut) (counts : List ℕ) (berth : Berth)
    (total slot : ℕ) : Type 0 where
  pub under : Under head seed loss (written_sent slots₀ counts₀) (written_sent slots counts) berth total slot
  pub same : SameSlots slots₀ slots

abbrev pub invariant-loop-slot : goal.invariant-loop-slot
invariant-loop-slot l = Held l.head l.seed l.loss l.initial.slots l.initial.counts l.slots l.counts l.berth l.total l.slot
