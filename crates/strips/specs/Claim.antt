-- "Any table of a whole number of days goes there and back, starting from either side." (02, W13)
use Rattle.std.specs.Prelude.{Ok, true, List, ◌≡◌, ℕ, ◌<◌, length, get_or}
use Rattle.rules.specs.Opening.{interval_ok}
use Rattle.strips.specs.Strips.{per_day, whole_days, laid_answer, to_strips_after, from_strips_after}

-- what a list of bytes holds: nothing else is asked of a table or of strips
abbrev pub Bytes : List ℕ → Type 0
Bytes bytes = (p : ℕ) → get_or bytes p 0 < 256

-- what a call leaves in its output, from the interval length, what it is given and the output before
abbrev pub Call : Type 0
Call = ℕ → List ℕ → List ℕ → List ℕ

-- both calls are accepted, and the second leaves what the first was given
pub record Returned (first second : Call) (interval : ℕ) (given out back : List ℕ) : Type 0 where
  pub accepted : laid_answer interval (length given) (length out) ≡ Ok tt
  pub accepted_back : laid_answer interval (length (first interval given out)) (length back) ≡ Ok tt
  pub restored : second interval (first interval given out) back ≡ given

-- of a whole number of days, into outputs as long
abbrev pub Returns : Call → Call → Type 0
Returns first second =
    (interval : ℕ) (given out back : List ℕ) → Bytes given
    → interval_ok interval ≡ true → whole_days (per_day interval) (length given) ≡ true
    → length out ≡ length given → length back ≡ length given
    → Returned first second interval given out back

-- a table through its strips, and strips through their table; proved by `there_and_back` and `back_and_there`
abbrev pub ThereAndBack : Type 0
ThereAndBack = Returns to_strips_after from_strips_after

abbrev pub BackAndThere : Type 0
BackAndThere = Returns from_strips_after to_strips_after
