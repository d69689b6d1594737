-- One step of the berth for each slot from 0 upward (02, W12).
use Rattle.std.specs.Prelude.{Bool, false, ℕ, zero, suc, ◌+◌, ◌*◌, ◌/◌, ◌%◌, ltb}
use Rattle.rules.specs.declared.Head.{Head}
use Rattle.berth.specs.declared.generator.Berth.{Berth}
use Rattle.berth.specs.Generator.{draw}

-- floor(limit × L / 60)
unfoldable pub most_of : Head → ℕ
most_of h = h.limit * h.interval / 60

-- before the first slot
abbrev pub seeded : ℕ → Berth
seeded seed = record { x = seed; lost = false; value = 0 }

-- one draw
abbrev pub drawn : Berth → Berth
drawn b = record { x = draw b.x; lost = b.lost; value = b.value }

-- two draws for one slot: the first mod 1000 below the loss rate means that nothing is sent, the second mod (most + 1) is the true value
unfoldable pub stepped : ℕ → ℕ → Berth → Berth
stepped loss most b =
    let first = draw b.x in
    let second = draw first in
    record { x = second; lost = ltb (first % 1000) loss; value = second % (most + 1) }

-- the berth after i steps from a seed
unfoldable pub berth_after : Head → ℕ → ℕ → ℕ → Berth
berth_after h seed loss zero = seeded seed
berth_after h seed loss (suc i) = stepped loss (most_of h) (berth_after h seed loss i)

-- whether slot i is lost, and its true value
unfoldable pub lost_at : Head → ℕ → ℕ → ℕ → Bool
lost_at h seed loss i = (berth_after h seed loss (suc i)).lost

unfoldable pub value_at : Head → ℕ → ℕ → ℕ → ℕ
value_at h seed loss i = (berth_after h seed loss (suc i)).value
