-- The first draw, that a draw is never 0 from a number that is not, and what two draws make of a berth.
use mathlib.Core.Path.{◌≡◌, refl, ap, ◌∙◌}
use Prim.Native.Nat.{ℕ, zero, suc, ◌+◌, ◌-◌, ◌*◌, ◌/◌, ◌%◌, ◌^◌, ◌<◌}
use native.Mathlib.Nat.{div-add-mod', mod-lt}
use native.Mathlib.Omega.{arith}
use lib.Bits.{bit_xor, xor_add_and, and_le_l, and_le_r, xor_lt}
use lib.Dec.{ltb}
use mir.Syntax.{w32}
use mir.Val.{Fits}
use Rattle.rules.specs.declared.Head.{Head}
use Rattle.berth.specs.declared.generator.Berth.{Berth}
use Rattle.berth.specs.Generator.{draw}
use Rattle.berth.specs.Steps.{drawn, stepped, berth_after}

-- numbers whose xor is 0 are equal
same : (a b : ℕ) → bit_xor a b ≡ 0 → a ≡ b
same a b e = omega (arith, xor_add_and a b, and_le_l a b, and_le_r a b)

-- a multiple of 2 ^ 32 below it is 0
multiple : (x k : ℕ) → x < 2 ^ 32 → x ≡ 2 ^ 32 * k → x ≡ 0
multiple x k low e = omega arith

-- a shift to the left, kept to 32 bits, has another result: 8191 × 4227850239 = 1 + 2 ^ 32 × 8063, and 31 × 3186588639 = 1 + 2 ^ 32 × 23
left_13 : (x : ℕ) → x < 2 ^ 32 → (x ≡ 0 → ⊥) → x ≡ x * 2 ^ 13 % 2 ^ 32 → ⊥
left_13 x low some e =
    let q : ℕ = x * 2 ^ 13 / 2 ^ 32 in
    let d : q * 2 ^ 32 + x ≡ x * 2 ^ 13 = ap (λ (r : ℕ). q * 2 ^ 32 + r) e ∙ div-add-mod' (x * 2 ^ 13) (2 ^ 32) in
    some (multiple x (4_227_850_239 * q - 8063 * x) low (omega arith))

left_5 : (x : ℕ) → x < 2 ^ 32 → (x ≡ 0 → ⊥) → x ≡ x * 2 ^ 5 % 2 ^ 32 → ⊥
left_5 x low some e =
    let q : ℕ = x * 2 ^ 5 / 2 ^ 32 in
    let d : q * 2 ^ 32 + x ≡ x * 2 ^ 5 = ap (λ (r : ℕ). q * 2 ^ 32 + r) e ∙ div-add-mod' (x * 2 ^ 5) (2 ^ 32) in
    some (multiple x (3_186_588_639 * q - 23 * x) low (omega arith))

right_17 : (x : ℕ) → (x ≡ 0 → ⊥) → x ≡ x / 2 ^ 17 → ⊥
right_17 x some e = some (omega arith)

-- from 1 the first draw is 270369
pub first_draw : draw 1 ≡ 270_369
unfolding draw
first_draw = refl

pub draw_low : (x : ℕ) → x < 2 ^ 32 → draw x < 2 ^ 32
unfolding draw
draw_low x low =
    let y : ℕ = bit_xor x (x * 2 ^ 13 % 2 ^ 32) in
    let y-low : y < 2 ^ 32 = xor_lt 32 x (x * 2 ^ 13 % 2 ^ 32) low (omega arith) in
    let z : ℕ = bit_xor y (y / 2 ^ 17) in
    let z-low : z < 2 ^ 32 = xor_lt 32 y (y / 2 ^ 17) y-low (omega arith) in
    xor_lt 32 z (z * 2 ^ 5 % 2 ^ 32) z-low (omega arith)

pub never_zero : (x : ℕ) → x < 2 ^ 32 → (x ≡ 0 → ⊥) → draw x ≡ 0 → ⊥
unfolding draw
never_zero x low some =
    let y : ℕ = bit_xor x (x * 2 ^ 13 % 2 ^ 32) in
    let y-low : y < 2 ^ 32 = xor_lt 32 x (x * 2 ^ 13 % 2 ^ 32) low (omega arith) in
    let y-some : (y ≡ 0 → ⊥) = λ e. left_13 x low some (same _ _ e) in
    let z : ℕ = bit_xor y (y / 2 ^ 17) in
    let z-low : z < 2 ^ 32 = xor_lt 32 y (y / 2 ^ 17) y-low (omega arith) in
    let z-some : (z ≡ 0 → ⊥) = λ e. right_17 y y-some (same _ _ e) in
    λ e. left_5 z z-low z-some (same _ _ e)

-- so the generator of a berth is never 0, however many steps it has made
pub never_spent : (h : Head) (seed loss i : ℕ) → seed < 2 ^ 32 → (seed ≡ 0 → ⊥)
    → ((berth_after h seed loss i).x < 2 ^ 32) × ((berth_after h seed loss i).x ≡ 0 → ⊥)
unfolding berth_after stepped
never_spent h seed loss zero low some = (low, some)
never_spent h seed loss (suc i) low some =
    let r = never_spent h seed loss i low some in
    let x : ℕ = (berth_after h seed loss i).x in
    let once : draw x < 2 ^ 32 = draw_low x r.0 in
    (draw_low (draw x) once, never_zero (draw x) once (never_zero x r.0 r.1))

pub two_draws : (b r s : Berth) (loss most : ℕ) → r ≡ drawn b → s ≡ drawn r
    → record { x = s.x; lost = ltb (r.x % 1000) loss; value = s.x % (most + 1) } ≡ stepped loss most b
unfolding stepped
two_draws b r s loss most e f =
    let first : r.x ≡ draw b.x = ap (λ (c : Berth). c.x) e in
    let second : s.x ≡ draw (draw b.x) = ap (λ (c : Berth). c.x) f ∙ ap draw first in
    λ t. record { x = second t; lost = ltb (first t % 1000) loss; value = second t % (most + 1) }

pub value_low : (x most : ℕ) → x % (most + 1) < most + 1
value_low x most = mod-lt x (omega arith)

pub value_fits : (x most : ℕ) → Fits w32 most → Fits w32 (x % (most + 1))
value_fits x most f = record { fits = omega (arith, value_low x most, f.fits) }
