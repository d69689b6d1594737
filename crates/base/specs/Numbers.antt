-- Numbers of the papers that several layers name.
use Rattle.std.specs.Prelude.{ℕ}

-- the largest number of eight digits: no reading and no advance of a dial is over it (01, Spans), and no agreed value (02, W1)
abbrev pub eight_digits : ℕ
eight_digits = 99_999_999

-- where an eight-digit dial begins again at 0
abbrev pub dial_modulus : ℕ
dial_modulus = 100_000_000
