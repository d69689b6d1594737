-- Numbers and their bytes, records, and differences modulo 4,294,967,296.
use mathlib.Core.List.{List}
use mathlib.Core.Logic.{⊎_elim}
use mathlib.Core.Path.{◌≡◌, refl, ap, ◌∙◌}
use Prim.Native.Nat.{ℕ, zero, suc, ◌+◌, ◌-◌, ◌*◌, ◌/◌, ◌%◌, ◌<◌}
use native.Mathlib.Nat.{add-zero, zero-mul, one-mul, mul-one, div-div-eq-div-mul, div-one, mod-eq_of_lt}
use native.Mathlib.Omega.{arith}
use borrow.Author.Tests.{lt-ltb, ltb-true}
use lib.Dec.{lit<, ltb}
use lib.ListN.{get_or}
use Rattle.base.proofs.Logic.{either}
use Rattle.strips.specs.Strips.{byte_of, number, record_byte, in_table, value_at}
use Rattle.strips.specs.Inner.Laying.{spaced, record_of}

pub number_cong : (a b : ℕ → ℕ) → ((k : ℕ) → k < 4 → a k ≡ b k) → number a ≡ number b
unfolding number
number_cong a b h = rw (h 0 (lit< tt), h 1 (lit< tt), h 2 (lit< tt), h 3 (lit< tt))

-- the four bytes of a record that are read
pub number_spaced : (s : List ℕ) (at step : ℕ)
    → get_or s at 0 + 256 * get_or s (at + step) 0 + 65_536 * get_or s (at + 2 * step) 0 + 16_777_216 * get_or s (at + 3 * step) 0
    ≡ number (spaced s at step)
unfolding number
number_spaced s at step = simp (zero-mul, add-zero, one-mul)

pub table_value : (table : List ℕ) (i : ℕ) → number (spaced table (6 * i) 1) ≡ value_at table i
table_value table i =
    number_cong (spaced table (6 * i) 1) (in_table table i) (λ k l. ap (λ (x : ℕ). get_or table (6 * i + x) 0) (mul-one k))

pub number_lt : (b : ℕ → ℕ) → ((k : ℕ) → b k < 256) → number b < 4_294_967_296
unfolding number
number_lt b h = omega (arith, h 0, h 1, h 2, h 3)

-- a number by its quotients
four : (v a b c : ℕ) → v < 4_294_967_296 → a ≡ v / 256 → b ≡ a / 256 → c ≡ b / 256
    → v % 256 + 256 * (a % 256) + 65_536 * (b % 256) + 16_777_216 * (c % 256) ≡ v
four v a b c l x y z =
    let s : c < 256 = omega arith in
    let e : b ≡ 256 * c + b % 256 = omega arith in
    let f : a ≡ 256 * b + a % 256 = omega arith in
    let g : v ≡ 256 * a + v % 256 = omega arith in
    rw (mod-eq_of_lt s) (omega arith)

-- what is written is read
number_bytes : (v : ℕ) → v < 4_294_967_296 → number (byte_of v) ≡ v
unfolding number byte_of
number_bytes v l =
    rw (div-one v, ← div-div-eq-div-mul v 65_536 256, ← div-div-eq-div-mul v 256 256)
    (four v (v / 256) (v / 256 / 256) (v / 256 / 256 / 256) l refl refl refl)

-- what is read is written
byte_number : (b : ℕ → ℕ) → ((k : ℕ) → b k < 256) → (k : ℕ) → k < 4 → byte_of (number b) k ≡ b k
unfolding number byte_of
byte_number b h zero l = omega (arith, h 0)
byte_number b h (suc zero) l = omega (arith, h 0, h 1)
byte_number b h (suc (suc zero)) l = omega (arith, h 0, h 1, h 2)
byte_number b h (suc (suc (suc zero))) l = omega (arith, h 0, h 1, h 2, h 3)
byte_number b h (suc (suc (suc (suc k)))) l = absurd (omega arith)

record_value : (v : ℕ) (old : ℕ → ℕ) (k : ℕ) → k < 4 → record_byte v old k ≡ byte_of v k
unfolding record_byte
record_value v old k l = rw (lt-ltb k 4 l)

pub number_record : (v : ℕ) (old : ℕ → ℕ) → v < 4_294_967_296 → number (record_byte v old) ≡ v
number_record v old l = number_cong (record_byte v old) (byte_of v) (record_value v old) ∙ number_bytes v l

pub record_number : (b : ℕ → ℕ) → ((k : ℕ) → b k < 256) → (k : ℕ) → record_byte (number b) b k ≡ b k
unfolding record_byte
record_number b h k =
    ⊎_elim (λ e. rw e (byte_number b h k (ltb-true k 4 e))) (λ e. rw e) (either (ltb k 4))

-- of another record only letter and method are taken
pub record_again : (v w : ℕ) (a b : ℕ → ℕ) (k : ℕ) → a k ≡ record_byte w b k → record_byte v a k ≡ record_byte v b k
unfolding record_byte
record_again v w a b k h = ⊎_elim (λ e. rw e) (λ e. rw e (rw e at h)) (either (ltb k 4))

-- the bytes that are written
pub record_at : (v : ℕ) (old : ℕ → ℕ) (k : ℕ) → k < 6 → get_or (record_of v (old 4) (old 5)) k 0 ≡ record_byte v old k
unfolding record_byte
record_at v old zero l = refl
record_at v old (suc zero) l = refl
record_at v old (suc (suc zero)) l = refl
record_at v old (suc (suc (suc zero))) l = refl
record_at v old (suc (suc (suc (suc zero)))) l = refl
record_at v old (suc (suc (suc (suc (suc zero))))) l = refl
record_at v old (suc (suc (suc (suc (suc (suc k)))))) l = absurd (omega arith)

-- a difference and its sum, and the other way
pub add_difference : (earlier value : ℕ) → earlier < 4_294_967_296 → value < 4_294_967_296
    → (earlier + (value + 4_294_967_296 - earlier) % 4_294_967_296) % 4_294_967_296 ≡ value
add_difference earlier value l m = omega arith

pub difference_added : (earlier difference : ℕ) → earlier < 4_294_967_296 → difference < 4_294_967_296
    → ((earlier + difference) % 4_294_967_296 + 4_294_967_296 - earlier) % 4_294_967_296 ≡ difference
difference_added earlier difference l m = omega arith
