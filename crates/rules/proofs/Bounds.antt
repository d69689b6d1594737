-- What a good head bounds.
use mathlib.Core.Bool.{true, ◌||◌}
use mathlib.Core.Logic.{⊎_elim}
use mathlib.Core.Path.{◌≡◌, refl}
use Prim.Native.Nat.{ℕ, ◌+◌, ◌*◌, ◌/◌, ◌^◌, ◌≤◌, ◌<◌}
use native.Mathlib.Nat.{mul-le-mul, mul_comm, le_refl, le-pred_of_lt, div-lt_iff_lt-mul}
use native.Mathlib.Omega.{arith}
use borrow.Author.Tests.{leb-true, eqb-true}
use lib.Dec.{eqb, lit≤}
use Rattle.base.proofs.Logic.{or_parts, passed}
use Rattle.rules.specs.declared.Head.{Head}
use Rattle.rules.specs.Opening.{first_day, interval_ok, day_tests, head_tests, head_ok, slots_per_day, slot_count}

pub record Bounded (h : Head) : Type 0 where
  pub interval_low : 5 ≤ h.interval
  pub interval_high : h.interval ≤ 30
  pub days_low : 1 ≤ h.days
  pub days_high : h.days ≤ 400
  pub last_day : first_day h + h.days ≤ 36_525
  pub limit_high : h.limit ≤ 1_000_000
  pub tolerance_high : h.tolerance ≤ 1_000_000
  pub interval_good : interval_ok h.interval ≡ true
  pub day_low : 48 ≤ slots_per_day h
  pub day_high : slots_per_day h ≤ 288

-- an interval is 5, 15 or 30
pub interval_bounds : (interval : ℕ) → interval_ok interval ≡ true
    → (5 ≤ interval) × (interval ≤ 30) × (48 ≤ 1440 / interval) × (1440 / interval ≤ 288)
unfolding interval_ok
interval_bounds interval e =
    ⊎_elim (λ x. of 5 x (lit≤ tt) (lit≤ tt) (lit≤ tt) (lit≤ tt))
    (λ d. ⊎_elim (λ x. of 15 x (lit≤ tt) (lit≤ tt) (lit≤ tt) (lit≤ tt)) (λ x. of 30 x (lit≤ tt) (lit≤ tt) (lit≤ tt) (lit≤ tt))
    (or_parts _ _ d))
    (or_parts _ _ e)
  where
    of : (l : ℕ) → eqb interval l ≡ true → 5 ≤ l → l ≤ 30 → 48 ≤ 1440 / l → 1440 / l ≤ 288
        → (5 ≤ interval) × (interval ≤ 30) × (48 ≤ 1440 / interval) × (1440 / interval ≤ 288)
    of l x p q r s = rw (eqb-true interval l x) (p, q, r, s)

-- the slots of at most 400 days, each with an interval at 1,000,000 W
caps : (l days : ℕ) → interval_ok l ≡ true → days ≤ 400 → 1440 / l * days * (1_000_000 * l / 60) ≤ 9_600_000_000
unfolding interval_ok
caps l days e m =
    ⊎_elim (λ x. rw (eqb-true l 5 x) (omega arith))
    (λ (d : (eqb l 15 || eqb l 30) ≡ true). ⊎_elim (λ x. rw (eqb-true l 15 x) (omega arith)) (λ x. rw (eqb-true l 30 x) (omega arith))
    (or_parts (eqb l 15) (eqb l 30) d))
    (or_parts _ _ e)

module _ (h : Head) where
  pub bounded : head_ok h ≡ true → Bounded h
  unfolding head_ok slots_per_day
  bounded e =
      let l = interval_bounds h.interval (passed (head_tests h) e 0) in
      let d = passed (head_tests h) e 1 in
      record {
        interval_low = l.0;
        interval_high = l.1;
        days_low = leb-true _ _ (passed (day_tests h) d 1);
        days_high = leb-true _ _ (passed (day_tests h) d 2);
        last_day = leb-true _ _ (passed (day_tests h) d 3);
        limit_high = leb-true _ _ (passed (head_tests h) e 3);
        interval_good = passed (head_tests h) e 0;
        tolerance_high = leb-true _ _ (passed (head_tests h) e 4);
        day_low = l.2;
        day_high = l.3;
      }

  -- N = n × D
  pub count_product : slot_count h ≡ slots_per_day h * h.days
  unfolding slot_count
  count_product = refl

  -- at most 115,200 slots
  pub count_high : Bounded h → slot_count h ≤ 115_200
  unfolding slot_count
  count_high b = mul-le-mul b.day_high b.days_high

  -- the most that a good slot can hold: an interval at 1,000,000 W
  pub cap : ℕ
  cap = 1_000_000 * h.interval / 60

  -- 500,000 Wh
  pub cap_high : Bounded h → cap ≤ 500_000
  unfolding cap
  cap_high b = omega (arith, b.interval_high)

  pub cap_low : Bounded h → 1 ≤ cap
  unfolding cap
  cap_low b = omega (arith, b.interval_low)

  -- all slots together: 9,600,000,000 Wh
  pub cap_all : Bounded h → slot_count h * cap ≤ 9_600_000_000
  unfolding cap slot_count slots_per_day
  cap_all b = caps h.interval h.days b.interval_good b.days_high

  -- a shape is at most 12 times as much, 6,000,000, and all shapes together 115,200,000,000
  pub shape_high : Bounded h → 12 * cap ≤ 6_000_000
  shape_high b = omega (arith, cap_high b)

  pub shapes_all : Bounded h → slot_count h * (12 * cap) ≤ 115_200_000_000
  shapes_all b = omega (arith, cap_all b)

  -- what a good slot can hold
  pub good_cap : Bounded h → (v : ℕ) → v * 60 ≤ h.limit * h.interval → v ≤ cap
  unfolding cap
  good_cap b v p =
      let q : h.limit * h.interval ≤ 1_000_000 * h.interval = mul-le-mul b.limit_high (le_refl _) in
      omega arith

-- a product of two 32-bit numbers fits 64 bits
pub product : {a b : ℕ} → a < 2 ^ 32 → b < 2 ^ 32 → a * b < 2 ^ 64
product {a} {b} p q = omega (arith, mul-le-mul (le-pred_of_lt p) (le-pred_of_lt q))

-- the day of a slot
pub day_below : (h : Head) → Bounded h → (at : ℕ) → at < slot_count h → at / slots_per_day h < h.days
unfolding slot_count
day_below h b at p =
    let q : 0 < slots_per_day h = omega arith in
    (div-lt_iff_lt-mul q).1 (rw (mul_comm h.days (slots_per_day h)) p)
