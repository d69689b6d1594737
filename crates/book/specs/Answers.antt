-- What a call answers (01, The three calls that fill it; Numbers of a refusal).
use Rattle.std.specs.Prelude.{Bool, true, false, cond, ℕ, ltb, Result, Ok, Err}
use Rattle.base.specs.declared.Refusal.{Refusal}
use Rattle.base.specs.declared.Refusal.TheVariants.{Conflict}
use Rattle.base.specs.Refusals.{number_of}
use Rattle.book.specs.declared.Filed.{Filed}
use Rattle.book.specs.declared.Filed.TheVariants as filed

-- a refusal tells its number only
pub data Answer : Type 0 where
  done : Answer
  stored : Answer
  late : Answer
  repeat : Answer
  refused : Refusal → Answer

-- 01's answer for each case of opening, and of a filling call
abbrev pub opened_meant : Result (Unit {0}) Refusal → Answer
opened_meant (Ok _) = done
opened_meant (Err r) = refused r

abbrev pub received_meant : Result Filed Refusal → Answer
received_meant (Ok filed.Stored) = stored
received_meant (Ok filed.Late) = late
received_meant (Ok filed.Repeat) = repeat
received_meant (Err r) = refused r

-- an answer as one number: refusals are under 100, so 0, 100 and 101 are free
abbrev pub answer_code : Answer → ℕ
answer_code done = 0
answer_code stored = 0
answer_code late = 100
answer_code repeat = 101
answer_code (refused r) = number_of r

-- "Stored, late and repeat are the accepted calls."
abbrev pub is_accepted : Answer → Bool
is_accepted done = false
is_accepted stored = true
is_accepted late = true
is_accepted repeat = true
is_accepted (refused r) = false

abbrev pub is_stored : Answer → Bool
is_stored done = false
is_stored stored = true
is_stored late = false
is_stored repeat = false
is_stored (refused r) = false

-- the version before, the call's, and whether the contents are equal: higher stored, lower late, equal repeat or 10
unfoldable pub by_version : ℕ → ℕ → Bool → Answer
by_version before version same =
    cond (ltb before version) stored (cond (ltb version before) late (cond same repeat (refused Conflict)))
