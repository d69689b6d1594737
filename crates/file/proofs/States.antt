-- The rule of a span's state, for the same state and slots, and the range of its sum.
use mathlib.Core.Bool.{Bool}
use mathlib.Core.Path.{◌≡◌}
use Prim.Native.Nat.{ℕ}
use Rattle.base.specs.Lists.{every}
use Rattle.file.specs.Reader.{state_rule, in_range}

pub range_same : {i j v w x y : ℕ} → i ≡ j → v ≡ w → x ≡ y → in_range i v x ≡ in_range j w y
range_same p q r = rw (p, q, r)

pub rule_same : {s t : ℕ} {a b c d e f g h i j : Bool} → s ≡ t → a ≡ b → c ≡ d → e ≡ f → g ≡ h → i ≡ j
    → every (state_rule s a c e g i) ≡ every (state_rule t b d f h j)
rule_same p q r s t u = rw (p, q, r, s, t, u)
