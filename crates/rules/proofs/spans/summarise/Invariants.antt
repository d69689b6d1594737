-- `spans::summarise`. After k slots the outage answer and the line are those of the slot before, and the sums are those of k slots.
use mathlib.Core.Bool.{Bool}
use mathlib.Core.List.{List}
use mathlib.Core.Path.{◌≡◌}
use Prim.Native.Nat.{ℕ, ◌+◌, ◌-◌, ◌≤◌}
use Rattle.rules.specs.declared.Head.{Head}
use Rattle.rules.specs.declared.linear.StraightLine.{StraightLine}
use Rattle.rules.specs.declared.spans.Summary.{Summary}
use Rattle.rules.specs.Opening.{Slots, Agreed, slot_count}
use Rattle.rules.specs.Lent.{slots_in, agreed_in}
use Rattle.rules.specs.Inner.Walks.{zero_before, line_before}
use Rattle.rules.specs.Inner.Summaries.{summary_of}
use Rattle.rules.proofs.spans.summarise.Given as goal

pub record Held (h : Head) (s : Slots) (a : Agreed) (holidays : List ℕ) (start count : ℕ) (m : Summary) (o : Bool) (l : StraightLine)
    (k : ℕ) :
    Type 0
  where
    pub inside : k ≤ count
    pub outage : o ≡ zero_before s.versions s.statuses (slot_count h) (start + k)
    pub line : l ≡ line_before h s a.versions (start + k)
    pub known : m ≡ summary_of h s a holidays start k

abbrev pub invariant-loop-k : goal.invariant-loop-k
invariant-loop-k l = Held l.head (slots_in l.slots) (agreed_in l.agreed) l.holidays l.start l.count
    l.sum l.outage l.line l.k

abbrev pub decreases-loop-k : goal.decreases-loop-k
decreases-loop-k l = l.count - l.k
