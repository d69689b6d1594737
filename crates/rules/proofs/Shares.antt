-- Shares of T grow with the running sum, and their differences add up.
use mathlib.Core.Path.{◌≡◌}
use Prim.Native.Nat.{ℕ, zero, suc, ◌+◌, ◌-◌, ◌*◌, ◌≤◌, ◌<◌}
use native.Mathlib.Nat.{div-le_of_le-mul, div-mul-le_self, le-div_iff_mul-le, mul_comm, mul-le-mul_left, le_trans, mul-div_cancel, mul-zero}
use native.Mathlib.Nat.{zero-div}
use native.Mathlib.Omega.{arith}
use Rattle.base.specs.Lists.{sum}
use Rattle.base.proofs.Sums.{sum_grows}
use Rattle.rules.specs.Spans.{share}

pub share_grows : (t p c e : ℕ) → 0 < e → p ≤ c → share t p e ≤ share t c e
unfolding share
share_grows t p c e q l = (le-div_iff_mul-le q).1 (le_trans (div-mul-le_self (t * p) e) (mul-le-mul_left t l))

-- none is above the whole
pub share_high : (t c e : ℕ) → c ≤ e → share t c e ≤ t
unfolding share
share_high t c e l = div-le_of_le-mul e (rw (mul_comm e t) (mul-le-mul_left t l))

pub share_whole : (t e : ℕ) → 0 < e → share t e e ≡ t
unfolding share
share_whole t e p = mul-div_cancel t p

share_none : (t e : ℕ) → share t 0 e ≡ 0
unfolding share
share_none t e = rw (mul-zero, zero-div)

-- floor(T × C / E) − floor(T × P / E), with C and P the running sums of f with and before each place
pub telescope : (f : ℕ → ℕ) (t e a k : ℕ) → 0 < e
    → sum (λ i. share t (sum f a (i + 1 - a)) e - share t (sum f a (i - a)) e) a k ≡ share t (sum f a k) e
unfolding sum
telescope f t e a zero p = rw share_none
telescope f t e a (suc k) p =
    let c : a + k + 1 - a ≡ suc k = omega arith in
    let b : a + k - a ≡ k = omega arith in
    rw (c, b) (omega (
      arith,
      telescope f t e a k p,
      share_grows t (sum f a k) (sum f a (suc k)) e p (sum_grows f a {j = k} {k = suc k} (omega arith)),
    ))
