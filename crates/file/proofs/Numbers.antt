-- Numbers in bytes: what is written is read, and what is read is written.
use mathlib.Core.Path.{◌≡◌, refl, sym, ap, ap₂, ◌∙◌}
use mathlib.Core.List.{List, ◌∷◌, ◌++◌}
use Prim.Native.Nat.{ℕ, zero, suc, ◌+◌, ◌-◌, ◌*◌, ◌/◌, ◌%◌, ◌^◌, ◌≤◌, ◌<◌}
use native.Mathlib.Nat.{add-suc, pow-suc, pow-le-pow_right, div-lt_iff_lt-mul}
use native.Mathlib.Omega.{arith}
use lib.Dec.{lit<}
use lib.ListN.{length, get_or, take, drop}
use lib.Seq.{get_or-append-add, get_or-take, drop-cons}
use Rattle.file.specs.Layout.{bytes}
use Rattle.file.specs.Reader.{num}
use Rattle.file.specs.Contents.{Bytes}

pub num_one : (bs : List ℕ) (at : ℕ) → num 1 bs at ≡ get_or bs at 0
unfolding num
num_one bs at = omega arith

pub length_bytes : (k n : ℕ) → length (bytes k n) ≡ k
unfolding bytes
length_bytes zero n = refl
length_bytes (suc k) n = ap suc (length_bytes k (n / 256))

-- what is before a place does not matter
pub num_skip : (p q : List ℕ) (k o : ℕ) → num k (p ++ q) (length p + o) ≡ num k q o
unfolding num
num_skip p q zero o = refl
num_skip p q (suc k) o =
    ap₂ (λ (x y : ℕ). x + 256 * y) (get_or-append-add p q o 0)
    (ap (λ (n : ℕ). num k (p ++ q) n) (sym (add-suc (length p) o)) ∙ num_skip p q k (suc o))

pub num_cons : (k x : ℕ) (q : List ℕ) (o : ℕ) → num k (x ∷ q) (suc o) ≡ num k q o
unfolding num
num_cons zero x q o = refl
num_cons (suc k) x q o = ap (λ (y : ℕ). get_or q o 0 + 256 * y) (num_cons k x q (suc o))

-- nor what is after it
pub num_take : (bs : List ℕ) (t k at : ℕ) → at + k ≤ t → num k (take t bs) at ≡ num k bs at
unfolding num
num_take bs t zero at l = refl
num_take bs t (suc k) at l =
    ap₂ (λ (x y : ℕ). x + 256 * y) (get_or-take t bs at 0 (omega arith)) (num_take bs t k (suc at) (omega arith))

-- what is written is read
pub num_bytes : (k n : ℕ) (q : List ℕ) → n < 256 ^ k → num k (bytes k n ++ q) 0 ≡ n
unfolding num bytes
num_bytes zero n q h = omega arith
num_bytes (suc k) n q h =
    let small : n / 256 < 256 ^ k = (div-lt_iff_lt-mul (lit< tt)).1 (rw pow-suc at h) in
    let rest : num k (n % 256 ∷ (bytes k (n / 256) ++ q)) 1 ≡ n / 256 = num_cons k (n % 256) (bytes k (n / 256) ++ q) 0
    ∙ num_bytes k (n / 256) q small in
    rw rest (omega arith)

-- a byte before those of a number makes it a longer number: a loop that goes down to place at
pub num_down : (bs : List ℕ) (k at j : ℕ) → 0 < j → j ≤ k
    → num (k - j) bs (at + j) * 256 + get_or bs (at + (j - 1)) 0 ≡ num (k - (j - 1)) bs (at + (j - 1))
unfolding num
num_down bs k at j h l =
    let e : k - (j - 1) ≡ suc (k - j) = omega arith in
    let m : at + j ≡ suc (at + (j - 1)) = omega arith in
    rw (e, m) (omega arith)

-- the same of its bound
pub pow_down : (k j n b : ℕ) → 0 < j → j ≤ k → n < 256 ^ (k - j) → b < 256 → n * 256 + b < 256 ^ (k - (j - 1))
pow_down k j n b h l s t =
    let e : k - (j - 1) ≡ suc (k - j) = omega arith in
    rw (e, pow-suc) (omega arith)

-- at most seven bytes of eight are read before the last one
pub seven : (k j : ℕ) → k ≤ 8 → 0 < j → j ≤ k → 256 ^ (k - j) ≤ 256 ^ 7
seven k j w h l = let m : k - j ≤ 7 = omega arith in pow-le-pow_right (lit< tt) m

pub num_lt : (bs : List ℕ) → Bytes bs → (k at : ℕ) → num k bs at < 256 ^ k
unfolding num
num_lt bs b zero at = lit< tt
num_lt bs b (suc k) at = rw pow-suc (omega (arith, b at, num_lt bs b k (suc at)))

-- what is read is written
pub bytes_num : (bs : List ℕ) → Bytes bs → (k at : ℕ) → at + k ≤ length bs → bytes k (num k bs at) ≡ take k (drop at bs)
unfolding num bytes
bytes_num bs b zero at h = refl
bytes_num bs b (suc k) at h =
    let x : ℕ = get_or bs at 0 in
    let y : ℕ = num k bs (suc at) in
    let low : (x + 256 * y) % 256 ≡ x = omega (arith, b at) in
    let high : (x + 256 * y) / 256 ≡ y = omega (arith, b at) in
    let here : at < length bs = omega arith in
    let there : suc at + k ≤ length bs = omega arith in
    rw (drop-cons bs at 0 here) (ap₂ (λ (a : ℕ) (r : List ℕ). a ∷ r) low (ap (bytes k) high ∙ bytes_num bs b k (suc at) there))
