-- `marks::are_all_alike`: the slots from the next one on are left to be tested.
use mathlib.Core.Path.{◌≡◌}
use Prim.Native.Nat.{◌-◌, ◌+◌}
use Rattle.base.specs.Lists.{all}
use Rattle.file.specs.Reader.{slot_at}
use Rattle.market.specs.Fields.{mark_of, alike, one_mark}
use Rattle.market.proofs.marks.are_all_alike.Given as goal

abbrev pub invariant-loop-j : goal.invariant-loop-j
invariant-loop-j l =
    one_mark (λ i. mark_of l.codes (slot_at l.file i)) l.a l.n
    ≡ all (λ i. alike (mark_of l.codes (slot_at l.file l.a)) (mark_of l.codes (slot_at l.file (l.a + i)))) l.j (l.n - l.j)
