-- The totals of stays in a file (02, W11).
use Rattle.std.specs.Prelude.{Result, Ok, Err}
use Rattle.std.specs.Prelude.{Bool, true, false, ◌&&◌, List, [], ◌∷◌, ℕ, ◌+◌, ◌-◌, ◌*◌, ◌/◌, ◌%◌, leb, ltb, eqb, length, get_or}
use Rattle.rules.specs.Numbers.{day_minutes}
use Rattle.base.specs.declared.Refusal.{Refusal}
use Rattle.base.specs.declared.Refusal.TheVariants.{WrongPairs, WrongStay}
use Rattle.base.specs.Lists.{sum, every, up_to, all}
use Rattle.file.specs.declared.Figures.{Figures}
use Rattle.file.specs.Reader.{slot_at, figures, read_file}

-- ---- One stay

-- the sum of the slots of the days from first up to end, the day after the last; a day has n slots
unfoldable pub stay_total : List ℕ → ℕ → ℕ → ℕ → ℕ
stay_total bs n first end = sum (λ i. (slot_at bs i).value) (first * n) ((end - first) * n)

-- ---- The list of pairs: two numbers each, one after the other

abbrev pub pair_count : List ℕ → ℕ
pair_count pairs = length pairs / 2

abbrev pub first_of : List ℕ → ℕ → ℕ
first_of pairs k = get_or pairs (2 * k) 0

abbrev pub end_of : List ℕ → ℕ → ℕ
end_of pairs k = get_or pairs (2 * k + 1) 0

-- each pair's total, as if it were the only one
unfoldable pub totals_of : List ℕ → List ℕ → List ℕ
totals_of bs pairs = up_to (λ k. stay_total bs (day_minutes / (figures bs).interval) (first_of pairs k) (end_of pairs k)) 0
    (pair_count pairs)

-- ---- The answer

-- 18: more than 64 pairs, a pair list of odd length, or a number of totals other than that of the pairs
abbrev pub list_tests : List ℕ → ℕ → List Bool
list_tests pairs totals =
    leb (pair_count pairs) 64
    ∷ eqb (length pairs % 2) 0
    ∷ eqb totals (pair_count pairs)
    ∷ []

-- 19: a pair whose first number isn't below its second, or whose second exceeds D
abbrev pub pair_ok : ℕ → ℕ → ℕ → Bool
pair_ok days first end = ltb first end && leb end days

abbrev pub pairs_ok : ℕ → List ℕ → Bool
pairs_ok days pairs = all (λ k. pair_ok days (first_of pairs k) (end_of pairs k)) 0 (pair_count pairs)

-- each case of the answer, in the order 8, 9, 18, 19
abbrev pub stays_by : Result Figures Refusal → Bool → Bool → Result (Unit {0}) Refusal
stays_by (Err r) lists pairs = Err r
stays_by (Ok g) false pairs = Err WrongPairs
stays_by (Ok g) true false = Err WrongStay
stays_by (Ok g) true true = Ok tt

unfoldable pub stays_answer : List ℕ → List ℕ → List ℕ → Result (Unit {0}) Refusal
stays_answer bs pairs totals = stays_by (read_file bs) (every (list_tests pairs (length totals))) (pairs_ok (figures bs).days pairs)

-- a refusal changes no total
abbrev pub totals_after : Result (Unit {0}) Refusal → List ℕ → List ℕ → List ℕ
totals_after (Ok _) found totals = found
totals_after (Err r) found totals = totals

unfoldable pub stays_after : List ℕ → List ℕ → List ℕ → List ℕ
stays_after bs pairs totals = totals_after (stays_answer bs pairs totals) (totals_of bs pairs) totals
