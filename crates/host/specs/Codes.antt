-- The numbers that a host is given for the answers of the public calls.
use Rattle.std.specs.Prelude.{cond, List, [], ◌∷◌, ℕ, eqb, length, Result, Ok, Err}
use Rattle.rules.specs.declared.Head.{Head}
use Rattle.file.specs.declared.Figures.{Figures}
use Rattle.base.specs.declared.Refusal.{Refusal}
use Rattle.base.specs.Refusals.{code_of}
use Rattle.file.specs.Reader.{read_file}

-- a head given as its seven numbers
abbrev pub head_of : ℕ → ℕ → ℕ → ℕ → ℕ → ℕ → ℕ → Head
head_of year month day days interval limit tolerance = record {
  year = year;
  month = month;
  day = day;
  days = days;
  interval = interval;
  limit = limit;
  tolerance = tolerance;
}

-- in the order of the header's list
abbrev pub figures_list : Figures → List ℕ
figures_list g =
    g.first ∷ g.days ∷ g.interval ∷ g.spans ∷ g.actual ∷ g.substituted ∷ g.none ∷ g.sum ∷ g.layout ∷ []

-- what a list of nine places holds after reading
abbrev pub figures_in : Result Figures Refusal → List ℕ → List ℕ
figures_in (Ok g) held = figures_list g
figures_in (Err r) held = held

-- 2, as for any list of a wrong length, where there are not nine places for the figures
unfoldable pub read_answer : List ℕ → List ℕ → ℕ
read_answer bytes held = cond (eqb (length held) 9) (code_of (read_file bytes)) 2

unfoldable pub read_after : List ℕ → List ℕ → List ℕ
read_after bytes held = cond (eqb (length held) 9) (figures_in (read_file bytes) held) held
