-- The export to the market as numbers for C (02, W8).
use Rattle.std.specs.Prelude.{ℕ}
use Rattle.market.specs.declared.Codes.{Codes}

-- the codes for the methods 2, 3, 5, 18 and 19
abbrev pub codes_of : ℕ → ℕ → ℕ → ℕ → ℕ → Codes
codes_of two three five eighteen nineteen =
    record { two = two; three = three; five = five; eighteen = eighteen; nineteen = nineteen }
