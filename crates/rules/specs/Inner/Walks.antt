-- What the walk that fills the slots knows at a slot.
use Rattle.std.specs.Prelude.{Bool, true, false, cond, ◌&&◌, ◌||◌, List, [], ◌∷◌, ◌≡◌, ℕ, zero, suc, ◌+◌, ◌-◌, ◌*◌, ◌≤◌, ◌<◌, leb, ltb}
use Rattle.std.specs.Prelude.{get_or}
use Rattle.base.specs.Lists.{every}
use Rattle.rules.specs.declared.Head.{Head}
use Rattle.rules.specs.declared.Outcome.{Outcome}
use Rattle.rules.specs.declared.Quality.TheVariants.{A, S, F}
use Rattle.rules.specs.declared.walk.Walk.{Walk}
use Rattle.rules.specs.declared.linear.StraightLine.{StraightLine}
use Rattle.rules.specs.Opening.{Slots, Agreed, slot_count}
use Rattle.rules.specs.Tests.{is_gap, good_at}
use Rattle.rules.specs.Filling.{outage_before, outage_after, is_agreed, in_run, run_before, run_from, run_start, run_length, is_linear}
use Rattle.rules.specs.Filling.{line_value, from_references}
use Rattle.rules.specs.Numbers.{most_minutes}
use Rattle.rules.specs.Inner.Lent.{Fitted, Settled}

-- a good slot with this value
abbrev pub actual_of : ℕ → Outcome
actual_of value = record { value = value; quality = A; method = 0 }

-- a slot agreed at this value
abbrev pub agreed_of : ℕ → Outcome
agreed_of value = record { value = value; quality = F; method = 5 }

-- outage zero applies to slot i of n
unfoldable pub zero_at : List ℕ → List ℕ → ℕ → ℕ → Bool
zero_at versions statuses n i =
    is_gap versions i && (outage_before versions statuses i || outage_after versions statuses i (n - i))

-- to the slot before slot i
unfoldable pub zero_before : List ℕ → List ℕ → ℕ → ℕ → Bool
zero_before versions statuses n zero = false
zero_before versions statuses n (suc i) = zero_at versions statuses n i

-- slot i is direct: good, or agreed
unfoldable pub direct_at : Head → Slots → Agreed → ℕ → Bool
direct_at h s a i = good_at h s i || is_agreed a.versions i

-- and its outcome
unfoldable pub direct_of : Head → Slots → Agreed → ℕ → Outcome
direct_of h s a i = cond (good_at h s i) (actual_of (get_or s.values i 0)) (agreed_of (get_or a.values i 0))

-- before slot `from`, with lists that fit and slots up to `to` in the book
pub record DirectFrom (h : Head) (s : Slots) (a : Agreed) (from to : ℕ) (before : Bool) : Type 0 where
  pub fitted : Fitted h s
  pub settled : Settled h a
  pub ordered : from ≤ to
  pub inside : to ≤ slot_count h
  pub outage : before ≡ zero_before s.versions s.statuses (slot_count h) from

-- the slots from `from` on are direct as far as `end`, which is `to` or stands before a slot that is not
pub record DirectTo (h : Head) (s : Slots) (a : Agreed) (from to end : ℕ) (last : Bool) : Type 0 where
  pub further : from ≤ end
  pub inside : end ≤ to
  pub direct : (i : ℕ) → i < end → from ≤ i → direct_at h s a i ≡ true
  pub stops : end < to → direct_at h s a end ≡ false
  pub outage : last ≡ zero_before s.versions s.statuses (slot_count h) end

-- the j-th slot of a run that no line fills; 0 where there is no run
abbrev pub bare_line : ℕ → StraightLine
bare_line j = record { place = j; length = 0; left = 0; right = 0 }

-- slot i of a run that the line fills: j, g, l and r
abbrev pub full_line : Head → Slots → List ℕ → ℕ → StraightLine
full_line h s agreed i = record {
  place = suc (run_before h s agreed i);
  length = run_length h s agreed i;
  left = get_or s.values (run_start h s agreed i - 1) 0;
  right = get_or s.values (run_start h s agreed i + run_length h s agreed i) 0;
}

-- slot i of a run
unfoldable pub line_through : Head → Slots → List ℕ → ℕ → StraightLine
line_through h s agreed i =
    cond (is_linear h s agreed i) (full_line h s agreed i) (bare_line (suc (run_before h s agreed i)))

-- the run of slot i, if it lies in one
unfoldable pub line_at : Head → Slots → List ℕ → ℕ → StraightLine
line_at h s agreed i = cond (in_run h s agreed i) (line_through h s agreed i) (bare_line 0)

-- that of the slot before slot i
unfoldable pub line_before : Head → Slots → List ℕ → ℕ → StraightLine
line_before h s agreed zero = bare_line 0
line_before h s agreed (suc i) = line_at h s agreed i

-- g × L at most 120, and a good slot after the g slots from slot i
abbrev pub end_tests : Head → Slots → ℕ → ℕ → List Bool
end_tests h s i g = leb (g * h.interval) most_minutes ∷ ltb (i + g) (slot_count h) ∷ good_at h s (i + g) ∷ []

-- the slots of the run that begins at slot i, where these hold; else 0
unfoldable pub length_within : Head → Slots → List ℕ → ℕ → ℕ
length_within h s agreed i =
    let g = run_from h s agreed i (slot_count h - i) in
    cond (every (end_tests h s i g)) g 0

-- figures of a line that fit
pub record Drawn (l : StraightLine) : Type 0 where
  pub place : l.place ≤ l.length
  pub length : l.length ≤ 24
  pub left : l.left ≤ 500_000
  pub right : l.right ≤ 500_000

-- the outcome before scaling of a slot that has a cause and is not agreed, from its line and its references
unfoldable pub ruled_by : Bool → StraightLine → List ℕ → Outcome
ruled_by zeroed l xs =
    cond zeroed (record { value = 0; quality = A; method = 1 })
    (cond (ltb 0 l.length) (record { value = line_value l.left l.right l.place l.length; quality = S; method = 2 })
    (from_references xs))

unfoldable pub walk_at : Head → Slots → List ℕ → ℕ → Walk
walk_at h s agreed i =
    record { at = i; outage = zero_before s.versions s.statuses (slot_count h) i; line = line_before h s agreed i }
