-- The outcome of a slot before its span is scaled, and its shape (01, Filling; 02, W1, W2 and W7).
use Rattle.std.specs.Prelude.{Bool, false, cond, not, ◌&&◌, ◌||◌, List, [], ◌∷◌, ◌++◌, ℕ, zero, suc, ◌+◌, ◌-◌, ◌*◌, ◌/◌, leb, ltb, eqb, ℤ}
use Rattle.std.specs.Prelude.{pos, negsuc, nat_abs, ◌+ℤ◌, ◌-ℤ◌, ◌*ℤ◌, get_or, length, take}
use Rattle.base.specs.Lists.{every, sum_of}
use Rattle.rules.specs.declared.Head.{Head}
use Rattle.rules.specs.declared.Outcome.{Outcome}
use Rattle.rules.specs.declared.Quality.TheVariants.{A, S, F, N}
use Rattle.rules.specs.Opening.{Slots, Agreed, slots_per_day, slot_count}
use Rattle.rules.specs.Tests.{is_gap, outage_bit, good_at}
use Rattle.rules.specs.Weeks.{first_back, farthest_back, weeks_within}
use Rattle.rules.specs.Numbers.{most_minutes}

-- 1. Outage zero: slot i is delivered with the outage bit
unfoldable pub outage_at : List ℕ → List ℕ → ℕ → Bool
outage_at versions statuses i = not (is_gap versions i) && outage_bit (get_or statuses i 0)

-- so is the slot just before the run of gaps that ends before slot i
unfoldable pub outage_before : List ℕ → List ℕ → ℕ → Bool
outage_before versions statuses zero = false
outage_before versions statuses (suc i) = cond (is_gap versions i) (outage_before versions statuses i) (outage_at versions statuses i)

-- so is the slot just after the run of gaps that begins at slot j, with k slots left in the book
unfoldable pub outage_after : List ℕ → List ℕ → ℕ → ℕ → Bool
outage_after versions statuses j zero = false
outage_after versions statuses j (suc k) = cond (is_gap versions j) (outage_after versions statuses (suc j) k)
    (outage_at versions statuses j)

unfoldable pub is_outage_zero : Head → Slots → ℕ → Bool
is_outage_zero h s i =
    is_gap s.versions i
    && (outage_before s.versions s.statuses i || outage_after s.versions s.statuses i (slot_count h - i))

-- an agreed version above 0 (02, W1)
unfoldable pub is_agreed : List ℕ → ℕ → Bool
is_agreed agreed i = ltb 0 (get_or agreed i 0)

-- 2. Linear (02, W2): slot i has a cause and is not agreed or zeroed
unfoldable pub in_run : Head → Slots → List ℕ → ℕ → Bool
in_run h s agreed i = not (good_at h s i) && not (is_agreed agreed i) && not (is_outage_zero h s i)

-- how many such slots stand unbroken just before slot i
unfoldable pub run_before : Head → Slots → List ℕ → ℕ → ℕ
run_before h s agreed zero = 0
run_before h s agreed (suc i) = cond (in_run h s agreed i) (suc (run_before h s agreed i)) 0

-- how many from slot i on, with k slots left in the book
unfoldable pub run_from : Head → Slots → List ℕ → ℕ → ℕ → ℕ
run_from h s agreed i zero = 0
run_from h s agreed i (suc k) = cond (in_run h s agreed i) (suc (run_from h s agreed (suc i) k)) 0

-- the first slot of the run that slot i lies in
unfoldable pub run_start : Head → Slots → List ℕ → ℕ → ℕ
run_start h s agreed i = i - run_before h s agreed i

-- g, the slots of the run
unfoldable pub run_length : Head → Slots → List ℕ → ℕ → ℕ
run_length h s agreed i = run_before h s agreed i + run_from h s agreed i (slot_count h - i)

-- g × L at most 120, with good l before and good r after
abbrev pub line_tests : Head → Slots → ℕ → ℕ → List Bool
line_tests h s start g =
    leb (g * h.interval) most_minutes
    ∷ leb 1 start
    ∷ good_at h s (start - 1)
    ∷ ltb (start + g) (slot_count h)
    ∷ good_at h s (start + g)
    ∷ []

unfoldable pub is_linear : Head → Slots → List ℕ → ℕ → Bool
is_linear h s agreed i = every (line_tests h s (run_start h s agreed i) (run_length h s agreed i))

-- z / m, rounded towards the lower whole number; `negsuc a` is −(a + 1)
abbrev pub floor_over : ℤ → ℕ → ℤ
floor_over (pos a) m = pos (a / m)
floor_over (negsuc a) m = negsuc (a / m)

-- l + (r − l) × j / (g + 1), rounded towards the lower whole number, which lies between l and r and so is not negative
unfoldable pub line_value : ℕ → ℕ → ℕ → ℕ → ℕ
line_value l r j g = nat_abs (pos l +ℤ floor_over ((pos r -ℤ pos l) *ℤ pos j) (g + 1))

-- at the j-th slot of the run
unfoldable pub linear_value : Head → Slots → List ℕ → ℕ → ℕ
linear_value h s agreed i =
    let start = run_start h s agreed i in
    let g = run_length h s agreed i in
    line_value (get_or s.values (start - 1) 0) (get_or s.values (start + g) 0) (suc (run_before h s agreed i)) g

-- 3. Same day: slot j can be a reference
unfoldable pub is_reference : Head → Slots → List ℕ → ℕ → Bool
is_reference h s holidays j =
    good_at h s j && not (outage_bit (get_or s.statuses j 0)) && eqb (get_or holidays (j / slots_per_day h) 0) 0

-- slot i − (first + 7k) × n, of slot i's position first + 7k days earlier: its value, where it lies in the book and can be a reference
unfoldable pub week_back : Head → Slots → List ℕ → ℕ → ℕ → ℕ → List ℕ
week_back h s holidays first i k =
    let back = (first + 7 * k) * slots_per_day h in
    cond (leb back i && is_reference h s holidays (i - back)) (get_or s.values (i - back) 0 ∷ []) []

-- those of k = 0, 1, .., so many weeks, nearest first
unfoldable pub weeks_back : Head → Slots → List ℕ → ℕ → ℕ → ℕ → List ℕ
weeks_back h s holidays first i zero = []
weeks_back h s holidays first i (suc k) = weeks_back h s holidays first i k ++ week_back h s holidays first i k

-- the nearest four, from the days that the slot's own day decides
unfoldable pub references : Head → Slots → List ℕ → ℕ → List ℕ
references h s holidays i =
    let d = i / slots_per_day h in
    let first = first_back h holidays d in
    take 4 (weeks_back h s holidays first i (weeks_within first (farthest_back holidays d)))

-- their mean, rounded down
unfoldable pub mean_of : List ℕ → ℕ
mean_of xs = sum_of xs / length xs

-- 3, and 4. None, when no reference exists
unfoldable pub from_references : List ℕ → Outcome
from_references xs =
    cond (eqb (length xs) 0) (record { value = 0; quality = N; method = 0 })
    (record { value = mean_of xs; quality = S; method = 3 })

-- a good slot has its delivered value; one with a cause has its agreed value, or else the first rule that applies
unfoldable pub filled_at : Head → Slots → Agreed → List ℕ → ℕ → Outcome
filled_at h s a holidays i =
    cond (good_at h s i) (record { value = get_or s.values i 0; quality = A; method = 0 })
    (cond (is_agreed a.versions i) (record { value = get_or a.values i 0; quality = F; method = 5 })
    (cond (is_outage_zero h s i) (record { value = 0; quality = A; method = 1 })
    (cond (is_linear h s a.versions i) (record { value = linear_value h s a.versions i; quality = S; method = 2 })
    (from_references (references h s holidays i)))))

-- the shape of a slot filled with these references at hand (02, W7): of a linear slot 12 × its value, of a same-day slot
-- 12 × sum / number, which is whole; another slot has none
unfoldable pub shape_of : Outcome → List ℕ → ℕ
shape_of o xs = cond (eqb o.method 2) (12 * o.value) (cond (eqb o.method 3) (12 * sum_of xs / length xs) 0)

unfoldable pub shape_at : Head → Slots → Agreed → List ℕ → ℕ → ℕ
shape_at h s a holidays i = shape_of (filled_at h s a holidays i) (references h s holidays i)
