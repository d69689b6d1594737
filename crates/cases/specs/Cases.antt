-- 01's starred cases and those of 02, as one table: `Starred`, proved by `cases_hold`, which computes it.
use Rattle.base.specs.declared.Refusal.TheVariants.{OutsideBounds}
use Rattle.std.specs.Prelude.{◌≡◌, ℕ, ◌-◌, ◌*◌, Bool, true, false, not, ◌&&◌, List, [], ◌∷◌, ◌++◌, replicate, ◌==◌, nat_eq}
use Rattle.std.specs.Prelude.{Option, None, Some}
use Rattle.base.specs.Lists.{every, sum_of}
use Rattle.calendar.specs.Calendar.{day_number}
use Rattle.rules.specs.declared.Head.{Head}
use Rattle.rules.specs.declared.Outcome.{Outcome}
use Rattle.rules.specs.declared.Quality.{Quality}
use Rattle.rules.specs.declared.tests.Cause.{Cause}
use Rattle.rules.specs.declared.tests.Cause.TheVariants.{Demand}
use Rattle.rules.specs.Opening.{Slots, Cells}
use Rattle.rules.specs.Tests.{cause_at}
use Rattle.rules.specs.Filling.{is_linear, linear_value, is_reference, references, mean_of, from_references, shape_of, shape_at}
use Rattle.rules.specs.Spans.{is_a, is_f, advance, range_of, least_in, state_by, actual_sum, R, state_of, outcome_at}
use Rattle.book.specs.Answers.{Answer}
use Rattle.book.specs.Answers.Answer.{done, refused}
use Rattle.book.specs.Opening.{opened, open_answer}

-- a head of interval 30, limit 40,000 and tolerance 0
abbrev pub head_on : ℕ → ℕ → ℕ → ℕ → Head
head_on year month day days =
    record { year = year; month = month; day = day; days = days; interval = 30; limit = 40000; tolerance = 0 }

-- a head of one day and tolerance 0
abbrev pub head_of : ℕ → ℕ → Head
head_of interval limit =
    record { year = 2024; month = 5; day = 1; days = 1; interval = interval; limit = limit; tolerance = 0 }

-- the cause of a delivery of this value with status 0
abbrev pub cause_for : ℕ → ℕ → ℕ → Option Cause
cause_for limit interval value =
    cause_at (head_of interval limit) (record { values = value ∷ []; versions = 1 ∷ []; statuses = 0 ∷ [] }) 0

-- what opening answers, with lists as long as the head asks
abbrev pub opening : Head → Answer
opening h = open_answer h (opened h)

-- a delivery of this value with this status is a reference
abbrev pub refers : ℕ → ℕ → Bool
refers value status =
    is_reference (head_on 2024 5 1 1) (record { values = value ∷ []; versions = 1 ∷ []; statuses = status ∷ [] }) (0 ∷ []) 0

-- a day that begins with four deliveries of e and a gap between each two, and one of `rest` among zeros; the dial goes from 0 to 110,
-- with widths u and v
abbrev pub day : ℕ → ℕ → ℕ → ℕ → Cells
day e rest u v = record {
  slots = record {
    values = e ∷ 0 ∷ e ∷ 0 ∷ e ∷ 0 ∷ e ∷ rest ∷ replicate 40 0;
    versions = 1 ∷ 0 ∷ 1 ∷ 0 ∷ 1 ∷ 0 ∷ replicate 42 1;
    statuses = replicate 48 0;
  };
  holidays = 0 ∷ [];
  readings = 0 ∷ 110 ∷ [];
  read_versions = 1 ∷ 1 ∷ [];
  agreed = record { values = []; versions = [] };
  widths = u ∷ v ∷ [];
}

-- the gaps get these values
abbrev pub scaled : Cells → ℕ → ℕ → ℕ → Bool
scaled b x y z =
    let value : ℕ → ℕ = λ i. (outcome_at (head_on 2024 5 1 1) b i).value in
    (value 1 == x) && value 3 == y && value 5 == z

-- a day that begins with a delivery of 40 with the outage bit, a gap agreed at 600 and a delivery of 50 agreed at 700; the rest are 0,
-- and the dial goes from 0 to 690 (02, W1)
abbrev pub agreed_day : Cells
agreed_day = record {
  slots = record {
    values = 40 ∷ 0 ∷ 50 ∷ replicate 45 0;
    versions = 1 ∷ 0 ∷ replicate 46 1;
    statuses = 2 ∷ replicate 47 0;
  };
  holidays = 0 ∷ [];
  readings = 0 ∷ 690 ∷ [];
  read_versions = 1 ∷ 1 ∷ [];
  agreed = record { values = 0 ∷ 600 ∷ 700 ∷ []; versions = 0 ∷ 1 ∷ 1 ∷ [] };
  widths = [];
}

-- its slot i has this value, quality and method
abbrev pub agreed_has : ℕ → ℕ → (Quality → Bool) → ℕ → Bool
agreed_has i value quality method =
    let o : Outcome = outcome_at (head_on 2024 5 1 1) agreed_day i in
    (o.value == value) && quality o.quality && o.method == method

-- slots that begin with a delivery of l, g gaps and a delivery of r (02, W2)
abbrev pub line_day : ℕ → ℕ → ℕ → Slots
line_day l g r = record {
  values = l ∷ (replicate g 0 ++ (r ∷ []));
  versions = 1 ∷ (replicate g 0 ++ (1 ∷ []));
  statuses = [];
}

-- the line fills its j-th gap
abbrev pub line_fills : ℕ → ℕ → ℕ → ℕ → ℕ → Bool
line_fills interval l g r j = is_linear (head_of interval 40000) (line_day l g r) [] j

-- with this value
abbrev pub line_gives : ℕ → ℕ → ℕ → ℕ → ℕ → ℕ → Bool
line_gives interval l g r j value =
    line_fills interval l g r j && (linear_value (head_of interval 40000) (line_day l g r) [] j) == value

-- a book from Sunday 2024-05-05 on of which slot 0 alone has come, with these holiday cells on its first day and on day d: slot 0 is
-- the one reference at position 0 of day d (02, W3)
abbrev pub takes_sunday : ℕ → ℕ → ℕ → Bool
takes_sunday first last d =
    nat_eq (sum_of (references (head_on 2024 5 5 400) (record { values = 620 ∷ []; versions = 1 ∷ []; statuses = 0 ∷ [] })
    (first ∷ (replicate (d - 1) 0 ++ (last ∷ []))) (48 * d))) 620

-- these references give this shape (02, W7)
abbrev pub shaped : List ℕ → ℕ → Bool
shaped xs shape = shape_of (from_references xs) xs == shape

-- and a line from l to r over one gap this
abbrev pub line_shaped : ℕ → ℕ → ℕ → Bool
line_shaped l r shape = (shape_at (head_of 30 40000) (line_day l 1 r) (record { values = []; versions = [] }) [] 1) == shape

-- with the advance g and the widths u and v of its readings a dial has gone from lowest to highest (02, W10)
abbrev pub ranges : ℕ → ℕ → ℕ → ℕ → ℕ → Bool
ranges g u v lowest highest = (range_of g u v).lowest == lowest && (range_of g u v).highest == highest

-- where it has gone from 50 to 110 and the A and F slots sum to `actual`, R is this
abbrev pub held_to : ℕ → ℕ → Bool
held_to actual r = least_in (range_of 100 50 10) actual == r

-- and without S or N the state this, with tolerance t
abbrev pub range_state : ℕ → ℕ → ℕ → Bool
range_state actual t state =
    (state_by false false (range_of 100 50 10) (least_in (range_of 100 50 10) actual) actual t == state)

-- the day's R with these widths
abbrev pub day_held_to : ℕ → ℕ → ℕ → Bool
day_held_to u v r = R (head_on 2024 5 1 1) (day 1 96 u v) 0 1 == r

-- the cases that are told by tests
unfoldable pub cases : List Bool
cases =
    line_gives 30 7 1 10 1 8
    ∷ line_gives 30 10 3 4 1 8 ∷ line_gives 30 10 3 4 2 7 ∷ line_gives 30 10 3 4 3 5
    ∷ line_gives 15 100 3 104 1 101 ∷ line_gives 15 100 3 104 2 102 ∷ line_gives 15 100 3 104 3 103
    ∷ line_gives 15 40 2 40 1 40 ∷ line_gives 15 40 2 40 2 40
    ∷ line_gives 5 0 24 25 24 24 ∷ not (line_fills 5 0 25 25 1) ∷ not (line_fills 5 0 25 25 25)
    ∷ line_gives 30 0 4 5 4 4 ∷ not (line_fills 30 0 5 5 1) ∷ not (line_fills 30 0 5 5 5)
    ∷ refers 1045 0 ∷ not (refers 1078 4) ∷ not (refers 0 2)
    ∷ (mean_of (1045 ∷ 1089 ∷ []) == 1067)
    ∷ (mean_of (2310 ∷ 1995 ∷ 2079 ∷ []) == 2128)
    ∷ (advance 99999990 15 == 25)
    ∷ scaled (day 1 96 0 0) 3 3 4
    ∷ scaled (day 0 100 0 0) 3 3 4
    ∷ (day_number 2000 2 29 == 59)
    ∷ agreed_has 1 600 is_f 5
    ∷ agreed_has 2 50 is_a 0
    ∷ (actual_sum (head_on 2024 5 1 1) agreed_day 0 1 == 690)
    ∷ (state_of (head_on 2024 5 1 1) agreed_day 0 1 == 0)
    ∷ takes_sunday 0 1 1 ∷ takes_sunday 0 1 2 ∷ takes_sunday 0 1 3 ∷ takes_sunday 0 1 4
    ∷ takes_sunday 0 1 5 ∷ takes_sunday 0 1 6 ∷ takes_sunday 0 1 7
    ∷ not (takes_sunday 0 0 6) ∷ takes_sunday 0 0 7
    ∷ takes_sunday 0 1 370 ∷ not (takes_sunday 0 1 371)
    ∷ not (takes_sunday 1 1 6)
    ∷ shaped (1 ∷ 2 ∷ []) 18 ∷ line_shaped 1 1 12
    ∷ shaped (7 ∷ []) 84 ∷ shaped (1 ∷ 1 ∷ 2 ∷ []) 16 ∷ shaped (1 ∷ 1 ∷ 1 ∷ 2 ∷ []) 15 ∷ shaped (0 ∷ 0 ∷ []) 0 ∷ shaped [] 0
    ∷ ranges 25 50 10 0 35 ∷ ranges 25 0 0 25 25 ∷ ranges 100 50 10 50 110
    ∷ ranges 99999990 20 9 99999970 99999999 ∷ ranges 99999990 20 10 0 0 ∷ ranges 99999990 20 15 0 5
    ∷ held_to 49 50 ∷ held_to 50 50 ∷ held_to 51 51 ∷ held_to 110 110 ∷ held_to 111 110
    ∷ range_state 40 9 3 ∷ range_state 40 10 0 ∷ range_state 50 0 0 ∷ range_state 70 0 0
    ∷ range_state 110 0 0 ∷ range_state 120 10 0 ∷ range_state 120 9 3
    ∷ day_held_to 5 20 105 ∷ scaled (day 1 96 5 20) 1 2 2
    ∷ day_held_to 15 20 100 ∷ scaled (day 1 96 15 20) 0 0 0
    ∷ []

-- all of them: those of the demand limit and of opening by the cause and by the answer
pub record Starred : Type 0 where
  pub kind1 : (cause_for 40000 30 20000 ≡ None) × (cause_for 40000 30 20001 ≡ Some Demand)
  pub kind1_five : (cause_for 40000 5 3333 ≡ None) × (cause_for 40000 5 3334 ≡ Some Demand)
  pub kind2 : (cause_for 70000 30 30000 ≡ None) × (cause_for 70000 30 40000 ≡ Some Demand)
  pub no_day : opening (head_on 2001 2 29 1) ≡ refused OutsideBounds
  pub last_day : opening (head_on 2099 12 31 1) ≡ done
  pub day_after : opening (head_on 2099 12 31 2) ≡ refused OutsideBounds
  pub others : every cases ≡ true
