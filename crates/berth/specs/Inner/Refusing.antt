-- What is known before anything is written.
use Rattle.std.specs.Prelude.{ℕ, ◌+◌, ◌*◌}
use Rattle.rules.specs.declared.Head.{Head}
use Rattle.rules.specs.Opening.{slot_count}

-- the length of a run's file is known from the head: N slots, one span and the trailer
unfoldable pub file_size : Head → ℕ
file_size h = 6 * slot_count h + 14 + 32
