-- The tests of a slot (01, Tests of a slot).
use Rattle.std.specs.Prelude.{Bool, cond, List, ℕ, ◌*◌, ◌/◌, ◌%◌, ltb, eqb, get_or, Option, Some, None, is_none}
use Rattle.rules.specs.declared.Head.{Head}
use Rattle.rules.specs.declared.tests.Cause.{Cause}
use Rattle.rules.specs.declared.tests.Cause.TheVariants.{Gap, TimeChange, Partial, Demand}
use Rattle.rules.specs.Opening.{Slots}

-- version 0: nothing came for slot i
unfoldable pub is_gap : List ℕ → ℕ → Bool
is_gap versions i = eqb (get_or versions i 0) 0

-- bits 0, 1 and 2 of a status
unfoldable pub time_change_bit : ℕ → Bool
time_change_bit x = eqb (x % 2) 1

unfoldable pub outage_bit : ℕ → Bool
outage_bit x = eqb (x / 2 % 2) 1

unfoldable pub partial_bit : ℕ → Bool
partial_bit x = eqb (x / 4 % 2) 1

-- the first that applies is the cause
unfoldable pub cause_of : ℕ → ℕ → ℕ → ℕ → ℕ → Option Cause
cause_of limit interval version value status =
    cond (eqb version 0) (Some Gap)
    (cond (time_change_bit status) (Some TimeChange)
    (cond (partial_bit status) (Some Partial)
    (cond (ltb (limit * interval) (value * 60)) (Some Demand) None)))

unfoldable pub cause_at : Head → Slots → ℕ → Option Cause
cause_at h s i = cause_of h.limit h.interval (get_or s.versions i 0) (get_or s.values i 0) (get_or s.statuses i 0)

-- a slot without a cause is good
abbrev pub is_good : Option Cause → Bool
is_good cause = is_none cause

unfoldable pub good_at : Head → Slots → ℕ → Bool
good_at h s i = is_good (cause_at h s i)
