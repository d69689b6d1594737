-- The difference of two totals as a signed number of 64 bits.
use mathlib.Core.Logic.{⊎_elim}
use mathlib.Core.Path.{◌≡◌, sym, ap, subst, ◌∙◌}
use Prim.Native.Nat.{ℕ, zero, suc, ◌-◌, ◌≤◌, ◌<◌}
use native.Mathlib.Omega.{arith}
use borrow.Author.Tests.{le-ltb, lt-ltb, ltb-true, ltb-false}
use lib.Dec.{ltb}
use lib.IntN.{ℤ, pos, negsuc, ◌-ℤ◌}
use lib.Signed.{mag}
use mir.Syntax.{w64}
use mir.Val.{SFits, to_z, of_z}
use mir.ValLaws.{to_z-of_z, to_z_pos}
use Rattle.base.proofs.Logic.{either}

-- of a and b, where b is not above a, and where it is
pub rising : (a b : ℕ) → b ≤ a → pos a -ℤ pos b ≡ pos (a - b)
rising a zero h = ap pos (omega arith)
rising a (suc b) h = rw (le-ltb a (suc b) h)

pub falling : (a b : ℕ) → a < b → pos a -ℤ pos b ≡ negsuc (b - suc a)
falling a zero h = absurd (omega arith)
falling a (suc b) h = rw (lt-ltb a (suc b) h)

pub none : (a : ℕ) → pos a -ℤ pos a ≡ pos 0
none a = rising a a (omega arith) ∙ ap pos (omega arith)

mag_low : (a b m : ℕ) → a ≤ m → b ≤ m → mag (pos a -ℤ pos b) ≤ m
mag_low a b m p q =
    ⊎_elim
    (λ t. let h = ltb-true a b t in rw (falling a b h) (omega arith))
    (λ t. let h = ltb-false a b t in rw (rising a b h) (omega arith))
    (either (ltb a b))

-- the machine's way to it
module _ (a b : ℕ) (p : a ≤ 11_520_000_000_000) (q : b ≤ 57_600_000_000) where
  minus_is : to_z w64 a -ℤ to_z w64 b ≡ pos a -ℤ pos b
  minus_is = λ t. to_z_pos w64 a (omega arith) t -ℤ to_z_pos w64 b (omega arith) t

  pub minus_fits : SFits w64 (to_z w64 a -ℤ to_z w64 b)
  minus_fits = subst (SFits w64) (sym minus_is) (record { sfits = omega (arith, mag_low a b 11_520_000_000_000 p (omega arith)) })

  pub minus_read : to_z w64 (of_z w64 (to_z w64 a -ℤ to_z w64 b)) ≡ pos a -ℤ pos b
  minus_read = to_z-of_z w64 _ minus_fits ∙ minus_is

  pub minus_again : (z : ℤ) → z ≡ pos a -ℤ pos b → to_z w64 (of_z w64 z) ≡ pos a -ℤ pos b
  minus_again z e = to_z-of_z w64 z (subst (SFits w64) (minus_is ∙ sym e) minus_fits) ∙ e
