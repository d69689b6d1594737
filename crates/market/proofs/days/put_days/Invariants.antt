-- `days::put_days`: the days so far are added.
use Prim.Native.Nat.{ℕ, ◌+◌, ◌*◌}
use Rattle.file.specs.Reader.{slot_at}
use Rattle.market.specs.declared.marks.Mark.{Mark}
use Rattle.market.specs.Fields.{joined, mark_of}
use Rattle.market.specs.Records.{day_records}
use Rattle.line.specs.Inner.Writing.{Added}
use Rattle.market.proofs.days.put_days.Given as goal

abbrev pub invariant-loop-d : goal.invariant-loop-d
invariant-loop-d l =
    let value : ℕ → ℕ = λ i. (slot_at l.file i).value in
    let mark : ℕ → Mark = λ i. mark_of l.codes (slot_at l.file i) in
    Added l.initial.out l.at l.out l.next
    (joined (λ k. day_records l.texts.reason.now l.texts.created.now (l.first + k) value mark (k * l.n) l.n) 0 l.d)
