-- The lists that a delivery is lent, while the slots are sent.
use Rattle.std.specs.Prelude.{cond, List, ℕ, zero, suc}
use Rattle.rules.specs.declared.Head.{Head}
use Rattle.rules.specs.Opening.{Slots}
use Rattle.book.specs.Filling.{deliver_after, counts_after}
use Rattle.book.specs.declared.lent.SlotsMut.{SlotsMut}
use Rattle.book.specs.Written.{written_slots}
use Rattle.berth.specs.declared.generator.Berth.{Berth}
use Rattle.berth.specs.Steps.{berth_after}

pub record Sent : Type 0 where
  pub slots : Slots
  pub counts : List ℕ

abbrev pub written_sent : SlotsMut → List ℕ → Sent
written_sent s counts = record { slots = written_slots s; counts = counts }

-- after slot i, of which the berth has just made its step
unfoldable pub sent_one : Head → Sent → ℕ → Berth → Sent
sent_one h s i b =
    cond b.lost s
    (record {
      slots = deliver_after h s.slots s.counts i 1 b.value 0;
      counts = counts_after h s.slots s.counts i 1 b.value 0;
    })

-- after the first i slots
unfoldable pub sent_from : Head → ℕ → ℕ → Sent → ℕ → Sent
sent_from h seed loss s zero = s
sent_from h seed loss s (suc i) = sent_one h (sent_from h seed loss s i) i (berth_after h seed loss (suc i))
