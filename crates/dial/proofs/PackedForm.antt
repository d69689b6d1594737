-- Forms of readings, byte by byte.
use mathlib.Core.Bool.{Bool, true, false, ◌||◌, or-false, false≢true}
use mathlib.Core.List.{List, [], ◌∷◌}
use mathlib.Core.Path.{◌≡◌, refl, sym, ◌∙◌}
use Prim.Native.Nat.{ℕ, zero, suc, ◌+◌, ◌*◌, ◌/◌, ◌%◌, ◌^◌, ◌≤◌, ◌<◌}
use native.Mathlib.Nat.{pow-suc, div-div-eq-div-mul, div-lt_iff_lt-mul}
use native.Mathlib.Numerals.{add-one}
use native.Mathlib.Omega.{arith}
use borrow.Author.Tests.{ltb-false, le-ltb}
use lib.Dec.{ltb, lit<}
use lib.ListN.{length, set, get_or, drop}
use lib.Seq.{drop-cons}
use Rattle.dial.specs.Dial.{digit, byte_at, form, upper, lower, above_nine, reading_of}

-- ---- The form from the last two digits up

digit_next : (k n : ℕ) → digit (suc (suc k)) n ≡ digit k (n / 100)
unfolding digit
digit_next k n =
    let e : 10 ^ suc (suc k) ≡ 100 * 10 ^ k = omega (arith, pow-suc 10 (suc k), pow-suc 10 k) in
    rw (e, ← div-div-eq-div-mul n 100 (10 ^ k))

byte_next : (i n : ℕ) → byte_at (suc i) n ≡ byte_at i (n / 100)
unfolding byte_at
byte_next i n =
    let h : 2 * suc i + 1 ≡ suc (suc (2 * i + 1)) = omega arith in
    let l : 2 * suc i ≡ suc (suc (2 * i)) = omega arith in
    rw (h, l, digit_next (2 * i + 1) n, digit_next (2 * i) n)

-- k bytes of a number, the last two digits first
unfoldable pub packed : ℕ → ℕ → List ℕ
packed zero n = []
packed (suc k) n = byte_at 0 n ∷ packed k (n / 100)

pub form_packed : (n : ℕ) → form n ≡ packed 4 n
unfolding form packed
form_packed n =
    let two : byte_at 2 n ≡ byte_at 0 (n / 100 / 100) = byte_next 1 n ∙ byte_next 0 (n / 100) in
    let three : byte_at 3 n ≡ byte_at 0 (n / 100 / 100 / 100) = byte_next 2 n ∙ byte_next 1 (n / 100) ∙ byte_next 0 (n / 100 / 100) in
    rw (byte_next 0 n, two, three)

-- ---- One byte

-- the halves of a byte are its digits
halves : (n : ℕ) → (upper (byte_at 0 n) ≡ n / 10 % 10) × (lower (byte_at 0 n) ≡ n % 10)
unfolding byte_at digit
halves n = (omega arith, omega arith)

-- a byte without a half above 9 is that of its digits, whatever hundreds stand before them
byte_back : (b n : ℕ) → upper b ≤ 9 → lower b ≤ 9 → byte_at 0 (10 * upper b + lower b + 100 * n) ≡ b
unfolding byte_at digit
byte_back b n h l =
    let tens : (10 * upper b + lower b + 100 * n) / 10 % 10 ≡ upper b = omega arith in
    let ones : (10 * upper b + lower b + 100 * n) % 10 ≡ lower b = omega arith in
    omega arith

-- ---- All bytes

pub packed_digits : (k n : ℕ) → above_nine (packed k n) ≡ false
unfolding above_nine packed
packed_digits zero n = refl
packed_digits (suc k) n =
    let (h, l) = halves n in
    rw (h, l, le-ltb 9 (n / 10 % 10) (omega arith), le-ltb 9 (n % 10) (omega arith)) (packed_digits k (n / 100))

pub reading_packed : (k n : ℕ) → n < 100 ^ k → reading_of (packed k n) ≡ n
unfolding reading_of packed
reading_packed zero n s = omega arith
reading_packed (suc k) n s =
    let (h, l) = halves n in
    let t : n / 100 < 100 ^ k = (div-lt_iff_lt-mul (lit< tt)).1 (rw pow-suc at s) in
    rw (h, l, reading_packed k (n / 100) t) (omega arith)

-- the parts of bytes without a half above 9
or_parts : (a b c : Bool) → (a || b || c) ≡ false → (a ≡ false) × (b ≡ false) × (c ≡ false)
or_parts true b c e = absurd (false≢true (sym e))
or_parts false true c e = absurd (false≢true (sym e))
or_parts false false c e = (refl, refl, e)

record Digits (b : ℕ) (bs : List ℕ) : Type 0 where
  high : upper b ≤ 9
  low : lower b ≤ 9
  rest : above_nine bs ≡ false

digits : (b : ℕ) (bs : List ℕ) → above_nine (b ∷ bs) ≡ false → Digits b bs
unfolding above_nine
digits b bs e =
    let (h, l, r) = or_parts (ltb 9 (upper b)) (ltb 9 (lower b)) (above_nine bs) e in
    record { high = ltb-false 9 (upper b) h; low = ltb-false 9 (lower b) l; rest = r }

pub reading_low : (bs : List ℕ) → above_nine bs ≡ false → reading_of bs < 100 ^ length bs
unfolding reading_of
reading_low [] e = lit< tt
reading_low (b ∷ bs) e =
    let d = digits b bs e in
    rw pow-suc (omega (arith, reading_low bs d.rest))

pub packed_reading : (bs : List ℕ) → above_nine bs ≡ false → packed (length bs) (reading_of bs) ≡ bs
unfolding reading_of packed
packed_reading [] e = refl
packed_reading (b ∷ bs) e =
    let d = digits b bs e in
    let hundreds : (10 * upper b + lower b + 100 * reading_of bs) / 100 ≡ reading_of bs = omega arith in
    rw (byte_back b (reading_of bs) d.high d.low, hundreds, packed_reading bs d.rest)

-- ---- Four bytes

-- the four bytes that `pack` computes
pub form_bytes : (n : ℕ) {a b c d : ℕ} → a ≡ byte_at 0 n → b ≡ byte_at 0 (n / 100) → c ≡ byte_at 0 (n / 10_000) → d ≡ byte_at 0
    (n / 1_000_000)
    → a ∷ b ∷ c ∷ d ∷ [] ≡ form n
unfolding packed
form_bytes n e f g h =
    rw (e, f, g, h, form_packed n, div-div-eq-div-mul n 100 100, div-div-eq-div-mul n 10_000 100)

-- four stores fill a list of four
pub filled : (xs : List ℕ) {a b c d : ℕ} → length xs ≡ 4 → set (set (set (set xs 0 a) 1 b) 2 c) 3 d ≡ a ∷ b ∷ c ∷ d ∷ []
filled [] l = absurd (omega arith)
filled (w ∷ []) l = absurd (omega arith)
filled (w ∷ x ∷ []) l = absurd (omega arith)
filled (w ∷ x ∷ y ∷ []) l = absurd (omega arith)
filled (w ∷ x ∷ y ∷ z ∷ []) l = refl
filled (w ∷ x ∷ y ∷ z ∷ v ∷ vs) l = absurd (omega arith)

-- the number that two digits are
abbrev pub pair : List ℕ → ℕ → ℕ
pair bs i = 10 * upper (get_or bs i 0) + lower (get_or bs i 0)

-- the reading that `unpack` computes
pub reading_four : (bs : List ℕ) → length bs ≡ 4 → reading_of bs ≡ pair bs 0 + 100 * pair bs 1 + 10_000 * (pair bs 2 + 100 * pair bs 3)
unfolding reading_of
reading_four [] l = absurd (omega arith)
reading_four (w ∷ []) l = absurd (omega arith)
reading_four (w ∷ x ∷ []) l = absurd (omega arith)
reading_four (w ∷ x ∷ y ∷ []) l = absurd (omega arith)
reading_four (w ∷ x ∷ y ∷ z ∷ []) l = omega arith
reading_four (w ∷ x ∷ y ∷ z ∷ v ∷ vs) l = absurd (omega arith)

-- the same of four values that are those of its bytes
pub reading_made : (bs : List ℕ) (v0 v1 v2 v3 : ℕ) → length bs ≡ 4 → v0 ≡ pair bs 0 → v1 ≡ pair bs 1 → v2 ≡ pair bs 2 → v3 ≡ pair bs 3
    → reading_of bs ≡ v0 + 100 * v1 + 10_000 * (v2 + 100 * v3)
reading_made bs v0 v1 v2 v3 four p q r s = reading_four bs four ∙ rw (p, q, r, s)

-- ---- One byte after the other

pub above_next : (bs : List ℕ) (i : ℕ) → i < length bs
    → above_nine (drop i bs) ≡ (above_nine (get_or bs i 0 ∷ []) || above_nine (drop (i + 1) bs))
unfolding above_nine
above_next bs i h = rw (add-one i, drop-cons bs i 0, or-false)
