-- Division rounded towards the lower whole number, as the machine's signed division gives it, and the value of a line as a weighted mean.
use mathlib.Core.Bool.{Bool, true, false, false≢true}
use mathlib.Core.Logic.{⊎_elim}
use mathlib.Core.Path.{◌≡◌, refl, sym, ap, subst, ◌∙◌}
use Prim.Native.Nat.{ℕ, zero, suc, ◌+◌, ◌-◌, ◌*◌, ◌/◌, ◌%◌, ◌^◌, ◌≤◌, ◌<◌}
use native.Mathlib.Nat.{add-mul, mul-add, suc-mul, mul-zero, zero-mul, div-add-mod', mod-lt, div-eq_of_lt-le, mul-add-div_right}
use native.Mathlib.Nat.{div-lt_iff_lt-mul, div-le_self, div-le_of_le-mul, mul-le-mul, mul_comm, le_refl}
use native.Mathlib.Omega.{arith}
use borrow.Author.Tests.{le-ltb, lt-ltb, ltb-true, ltb-false}
use lib.Dec.{T, ltb}
use lib.IntN.{ℤ, pos, negsuc, neg_ℤ, nat_abs, pred_ℤ, ◌+ℤ◌, ◌-ℤ◌, ◌*ℤ◌, -ℤ_one}
use lib.Signed.{mag, lt_z, non_neg, quot_z, rem_z, mag_rem}
use mir.Syntax.{w32, w64}
use mir.Val.{Fits, SFits, to_z, of_z}
use mir.ValLaws.{to_z-of_z, to_z_pos}
use Rattle.base.proofs.Logic.{either}
use Rattle.rules.specs.declared.linear.StraightLine.{StraightLine}
use Rattle.rules.specs.Filling.{floor_over, line_value}
use Rattle.rules.specs.Inner.Walks.{Drawn}

-- a / m and (a + 1) / m
module _ (a m : ℕ) (p : 0 < m) where
  quotient_on : suc a % m ≡ 0 → suc a / m ≡ suc (a / m)
  quotient_on e = go (suc a / m) refl
    where
      go : (x : ℕ) → suc a / m ≡ x → x ≡ suc (a / m)
      go zero q = let d : suc a / m * m + suc a % m ≡ suc a = div-add-mod' (suc a) m in
          let z : suc a / m * m ≡ 0 = rw q (zero-mul m) in
          absurd (omega arith)
      go (suc y) q = let d : suc a / m * m + suc a % m ≡ suc a = div-add-mod' (suc a) m in
          let z : suc a / m * m ≡ y * m + m = rw (q, suc-mul) in
          let s : (y + 1) * m ≡ y * m + 1 * m = add-mul y 1 m in
          ap suc (sym (div-eq_of_lt-le m (omega arith) (omega arith)))

  quotient_kept : 0 < suc a % m → suc a / m ≡ a / m
  quotient_kept e =
      let d : suc a / m * m + suc a % m ≡ suc a = div-add-mod' (suc a) m in
      let s : (suc a / m + 1) * m ≡ suc a / m * m + 1 * m = add-mul (suc a / m) 1 m in
      let r : suc a % m < m = mod-lt (suc a) p in
      sym (div-eq_of_lt-le m (omega arith) (omega arith))

below_neg : (n : ℕ) → pred_ℤ (neg_ℤ (pos n)) ≡ negsuc n
below_neg zero = refl
below_neg (suc n) = refl

-- `/` rounds towards zero, and `%` has the dividend's sign
module _ (m : ℕ) (p : 0 < m) where
  floor_down : (z : ℤ) → lt_z (rem_z z (pos m)) (pos 0) ≡ true → quot_z z (pos m) -ℤ pos 1 ≡ floor_over z m
  floor_down (pos a) t = absurd (let l : a % m < 0 = ltb-true _ _ t in omega arith)
  floor_down (negsuc a) t =
      -ℤ_one (quot_z (negsuc a) (pos m)) ∙ below_neg (suc a / m) ∙ ap negsuc (go (suc a % m) refl t)
    where
      go : (x : ℕ) → suc a % m ≡ x → lt_z (neg_ℤ (pos x)) (pos 0) ≡ true → suc a / m ≡ a / m
      go zero e t = absurd (false≢true t)
      go (suc x) e t = quotient_kept a m p (omega arith)

  floor_whole : (z : ℤ) → lt_z (rem_z z (pos m)) (pos 0) ≡ false → quot_z z (pos m) ≡ floor_over z m
  floor_whole (pos a) t = refl
  floor_whole (negsuc a) t = ap (λ (x : ℕ). neg_ℤ (pos x)) (go (suc a % m) refl t)
    where
      go : (x : ℕ) → suc a % m ≡ x → lt_z (neg_ℤ (pos x)) (pos 0) ≡ false → suc a / m ≡ suc (a / m)
      go zero e t = quotient_on a m p e
      go (suc x) e t = absurd (false≢true (sym t))

floor_mag : (z : ℤ) (m : ℕ) → mag (floor_over z m) ≤ mag z
floor_mag (pos a) m = div-le_self a m
floor_mag (negsuc a) m = div-le_self a m

quot_mag : (z : ℤ) (m : ℕ) → mag (quot_z z (pos m)) ≤ mag z
quot_mag (pos a) m = div-le_self a m
quot_mag (negsuc a) m = go (suc a / m) (div-le_self (suc a) m)
  where
    go : (x : ℕ) → x ≤ suc a → mag (neg_ℤ (pos x)) ≤ a
    go zero l = omega arith
    go (suc x) l = omega arith

-- what the machine reads from the bits of z and of m
module _ (z : ℤ) (f : SFits w64 z) (m : ℕ) (l : m < 2 ^ 32) (p : 0 < m) where
  abbrev zr : ℤ
  zr = to_z w64 (of_z w64 z)

  abbrev mr : ℤ
  mr = to_z w64 m

  m_read : mr ≡ pos m
  m_read = to_z_pos w64 m (omega arith)

  quot_is : quot_z zr mr ≡ quot_z z (pos m)
  quot_is = λ i. quot_z (to_z-of_z w64 z f i) (m_read i)

  pub quot_fits : SFits w64 (quot_z zr mr)
  quot_fits = subst (SFits w64) (sym quot_is) (record { sfits = omega (arith, quot_mag z m, f.sfits) })

  quot_read : to_z w64 (of_z w64 (quot_z zr mr)) ≡ quot_z z (pos m)
  quot_read = to_z-of_z w64 (quot_z zr mr) quot_fits ∙ quot_is

  rem_is : rem_z zr mr ≡ rem_z z (pos m)
  rem_is = λ i. rem_z (to_z-of_z w64 z f i) (m_read i)

  rem_read : to_z w64 (of_z w64 (rem_z zr mr)) ≡ rem_z z (pos m)
  rem_read =
      to_z-of_z w64 (rem_z zr mr) (subst (SFits w64) (sym rem_is) (record { sfits = omega (arith, mag_rem z (pos m), f.sfits) })) ∙ rem_is

  negative : (t : Bool) → lt_z (to_z w64 (of_z w64 (rem_z zr mr))) (pos 0) ≡ t → lt_z (rem_z z (pos m)) (pos 0) ≡ t
  negative t e = sym (ap (λ (r : ℤ). lt_z r (pos 0)) rem_read) ∙ e

  floor_fits : SFits w64 (floor_over z m)
  floor_fits = record { sfits = omega (arith, floor_mag z m, f.sfits) }

  module _ (t : lt_z (to_z w64 (of_z w64 (rem_z zr mr))) (pos 0) ≡ true) where
    down_is : to_z w64 (of_z w64 (quot_z zr mr)) -ℤ pos 1 ≡ floor_over z m
    down_is = ap (λ (q : ℤ). q -ℤ pos 1) quot_read ∙ floor_down m p z (negative true t)

    pub down_fits : SFits w64 (to_z w64 (of_z w64 (quot_z zr mr)) -ℤ pos 1)
    down_fits = subst (SFits w64) (sym down_is) floor_fits

    pub down_read : to_z w64 (of_z w64 (to_z w64 (of_z w64 (quot_z zr mr)) -ℤ pos 1)) ≡ floor_over z m
    down_read = to_z-of_z w64 _ down_fits ∙ down_is

  pub whole_read : lt_z (to_z w64 (of_z w64 (rem_z zr mr))) (pos 0) ≡ false → to_z w64 (of_z w64 (quot_z zr mr)) ≡ floor_over z m
  whole_read t = quot_read ∙ floor_whole m p z (negative false t)

-- r − l for two naturals
rising : (l r : ℕ) → l ≤ r → pos r -ℤ pos l ≡ pos (r - l)
rising zero r h = ap pos (omega arith)
rising (suc l) r h = rw (le-ltb r (suc l) h)

falling : (l r : ℕ) → r < l → pos r -ℤ pos l ≡ negsuc (l - suc r)
falling zero r h = absurd (omega arith)
falling (suc l) r h = rw (lt-ltb r (suc l) h)

-- a line over m parts: the value at part j is a mean of l and r
module _ (l r j m : ℕ) (p : 0 < m) (q : j ≤ m) where
  abbrev weighted : ℕ
  weighted = l * (m - j) + r * j

  -- l × m has a part to either side of slot j
  parts : l * m ≡ l * (m - j) + l * j
  parts = let e : m ≡ (m - j) + j = omega arith in ap (λ (x : ℕ). l * x) e ∙ mul-add l (m - j) j

  up : l ≤ r → l + (r - l) * j / m ≡ weighted / m
  up h =
      let e : r ≡ l + (r - l) = omega arith in
      let d : r * j ≡ l * j + (r - l) * j = ap (λ (x : ℕ). x * j) e ∙ add-mul l (r - l) j in
      let w : weighted ≡ l * m + (r - l) * j = omega (arith, parts) in
      sym (ap (λ (x : ℕ). x / m) w ∙ mul-add-div_right p l ((r - l) * j))

  -- y + 1 below l × m
  down : (y : ℕ) → r < l → suc (l - suc r) * j ≡ suc y → pos l +ℤ negsuc (y / m) ≡ pos (weighted / m)
  down y h e =
      let s : l ≡ r + suc (l - suc r) = omega arith in
      let d : l * j ≡ r * j + suc (l - suc r) * j = ap (λ (x : ℕ). x * j) s ∙ add-mul r (suc (l - suc r)) j in
      let w : weighted + suc y ≡ l * m = omega (arith, parts) in
      let b : suc y ≤ suc (l - suc r) * m = subst (λ (x : ℕ). x ≤ suc (l - suc r) * m) e (mul-le-mul (le_refl (suc (l - suc r))) q) in
      let k : y / m < suc (l - suc r) = (div-lt_iff_lt-mul p).1 b in
      let n : suc (y / m) ≤ l = omega arith in
      let t : l ≡ (l - suc (y / m)) + suc (y / m) = omega arith in
      let u : l * m ≡ (l - suc (y / m)) * m + suc (y / m) * m = ap (λ (x : ℕ). x * m) t ∙ add-mul (l - suc (y / m)) (suc (y / m)) m in
      let v : suc (y / m) * m ≡ y / m * m + m = suc-mul (y / m) m in
      let o : (l - suc (y / m) + 1) * m ≡ (l - suc (y / m)) * m + 1 * m = add-mul (l - suc (y / m)) 1 m in
      let x : y / m * m + y % m ≡ y = div-add-mod' y m in
      let z : y % m < m = mod-lt y p in
      let f : weighted / m ≡ l - suc (y / m) = div-eq_of_lt-le m (omega arith) (omega arith) in
      rw (le-ltb l (suc (y / m)) n) (ap pos (sym f))

  weighted_small : (b : ℕ) → l ≤ b → r ≤ b → weighted / m ≤ b
  weighted_small b x y =
      let e : m ≡ (m - j) + j = omega arith in
      let w : m * b ≡ (m - j) * b + j * b = ap (λ (n : ℕ). n * b) e ∙ add-mul (m - j) j b in
      let u : l * (m - j) ≤ (m - j) * b = rw (mul_comm (m - j) b) (mul-le-mul x (le_refl (m - j))) in
      let v : r * j ≤ j * b = rw (mul_comm j b) (mul-le-mul y (le_refl j)) in
      div-le_of_le-mul m (omega arith)

  line_exact : pos l +ℤ floor_over ((pos r -ℤ pos l) *ℤ pos j) m ≡ pos (weighted / m)
  line_exact =
      ⊎_elim
      (λ t. let h = ltb-true r l t in ap (λ (d : ℤ). pos l +ℤ floor_over (d *ℤ pos j) m) (falling l r h) ∙ go h (suc (l - suc r) * j) refl)
      (λ t. let h = ltb-false r l t in ap (λ (d : ℤ). pos l +ℤ floor_over (d *ℤ pos j) m) (rising l r h) ∙ ap pos (up h))
      (either (ltb r l))
    where
      go : r < l → (x : ℕ) → suc (l - suc r) * j ≡ x → pos l +ℤ floor_over (neg_ℤ (pos x)) m ≡ pos (weighted / m)
      go h zero e =
          let s : suc (l - suc r) * j ≡ (l - suc r) * j + j = suc-mul (l - suc r) j in
          let i : j ≡ 0 = omega arith in
          let c : r * j ≡ 0 = rw i (mul-zero r) in
          let d : l * j ≡ 0 = rw i (mul-zero l) in
          let w : weighted ≡ l * m + 0 = omega (arith, parts) in
          ap pos (sym (ap (λ (x : ℕ). x / m) w ∙ mul-add-div_right p l 0))
      go h (suc y) e = down y h e

module _ (l r j g : ℕ) where
  -- the mean of l and r, weighted by their distances
  pub line_weighted : j ≤ g + 1 → line_value l r j g ≡ (l * (g + 1 - j) + r * j) / (g + 1)
  unfolding line_value
  line_weighted q = ap nat_abs (line_exact l r j (g + 1) (omega arith) q)

  -- and no more than the larger of the two
  pub line_small : (b : ℕ) → j ≤ g + 1 → l ≤ b → r ≤ b → line_value l r j g ≤ b
  line_small b q x y = rw (line_weighted q) (weighted_small l r j (g + 1) (omega arith) q b x y)

-- a single slot gets half the sum
pub line_half : (l r : ℕ) → line_value l r 1 1 ≡ (l + r) / 2
line_half l r = line_weighted l r 1 1 (omega arith) ∙ ap (λ (x : ℕ). x / 2) (omega arith)

difference_mag : (l r b : ℕ) → l ≤ b → r ≤ b → mag (pos r -ℤ pos l) ≤ b
difference_mag l r b x y =
    ⊎_elim
    (λ t. let h = ltb-true r l t in rw (falling l r h) (omega arith))
    (λ t. let h = ltb-false r l t in rw (rising l r h) (omega arith))
    (either (ltb r l))

product_mag : (d : ℤ) (j : ℕ) → mag (d *ℤ pos j) ≤ suc (mag d) * j
product_mag (pos a) j = rw suc-mul (omega arith)
product_mag (negsuc a) j = go (suc a * j)
  where
    go : (x : ℕ) → mag (neg_ℤ (pos x)) ≤ x
    go zero = omega arith
    go (suc x) = omega arith

-- the machine's way to the value of a line
module _ (line : StraightLine) (w : Drawn line) where
  abbrev l : ℕ
  l = line.left

  abbrev r : ℕ
  r = line.right

  abbrev j : ℕ
  j = line.place

  abbrev m : ℕ
  m = line.length + 1

  abbrev rise : ℤ
  rise = to_z w64 r -ℤ to_z w64 l

  rise_is : rise ≡ pos r -ℤ pos l
  rise_is = λ i. to_z_pos w64 r (omega arith) i -ℤ to_z_pos w64 l (omega arith) i

  pub rise_fits : SFits w64 rise
  rise_fits = subst (SFits w64) (sym rise_is) (record { sfits = omega (arith, difference_mag l r 500_000 w.left w.right) })

  abbrev risen : ℤ
  risen = to_z w64 (of_z w64 rise) *ℤ to_z w64 j

  risen_is : risen ≡ (pos r -ℤ pos l) *ℤ pos j
  risen_is = λ i. (to_z-of_z w64 rise rise_fits ∙ rise_is) i *ℤ to_z_pos w64 j (omega arith) i

  risen_low : mag ((pos r -ℤ pos l) *ℤ pos j) ≤ 12_000_024
  risen_low =
      let a = difference_mag l r 500_000 w.left w.right in
      let b : suc (mag (pos r -ℤ pos l)) ≤ 500_001 = omega arith in
      let c : j ≤ 24 = omega arith in
      omega (arith, product_mag (pos r -ℤ pos l) j, mul-le-mul b c)

  pub risen_fits : SFits w64 risen
  risen_fits = subst (SFits w64) (sym risen_is) (record { sfits = omega (arith, risen_low) })

  module _ (f : ℤ) (e : f ≡ floor_over (to_z w64 (of_z w64 risen)) m) where
    floor_is : f ≡ floor_over ((pos r -ℤ pos l) *ℤ pos j) m
    floor_is = e ∙ ap (λ (z : ℤ). floor_over z m) (to_z-of_z w64 risen risen_fits ∙ risen_is)

    floor_fit : SFits w64 f
    floor_fit = subst (SFits w64) (sym floor_is) (record { sfits = omega (arith, floor_mag ((pos r -ℤ pos l) *ℤ pos j) m, risen_low) })

    abbrev value : ℤ
    value = to_z w64 l +ℤ to_z w64 (of_z w64 f)

    value_is : value ≡ pos ((l * (m - j) + r * j) / m)
    value_is =
        (λ i. to_z_pos w64 l (omega arith) i +ℤ (to_z-of_z w64 f floor_fit ∙ floor_is) i) ∙ line_exact l r j m (omega arith) (omega arith)

    pub value_fits : SFits w64 value
    value_fits =
        subst (SFits w64) (sym value_is)
        (record { sfits = omega (arith, weighted_small l r j m (omega arith) (omega arith) 500_000 w.left w.right) })

    value_read : to_z w64 (of_z w64 value) ≡ pos ((l * (m - j) + r * j) / m)
    value_read = to_z-of_z w64 value value_fits ∙ value_is

    pub value_whole : T (non_neg (to_z w64 (of_z w64 value))) × Fits w32 (nat_abs (to_z w64 (of_z w64 value)))
    value_whole =
        subst (λ (z : ℤ). T (non_neg z) × Fits w32 (nat_abs z)) (sym value_read)
        (tt, record { fits = omega (arith, weighted_small l r j m (omega arith) (omega arith) 500_000 w.left w.right) })

    pub value_line : nat_abs (to_z w64 (of_z w64 value)) ≡ line_value l r j line.length
    unfolding line_value
    value_line = ap nat_abs (value_read ∙ sym (line_exact l r j m (omega arith) (omega arith)))
