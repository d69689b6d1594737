-- What the tests of a date bound.
use mathlib.Core.Bool.{true}
use mathlib.Core.Path.{◌≡◌}
use Prim.Native.Nat.{ℕ, ◌≤◌}
use borrow.Author.Tests.{leb-true}
use Rattle.base.proofs.Logic.{and_parts}
use Rattle.calendar.specs.Calendar.{month_length, is_date}

pub record Bounded (y m d : ℕ) : Type 0 where
  pub year_low : 2000 ≤ y
  pub year_high : y ≤ 2099
  pub month_low : 1 ≤ m
  pub month_high : m ≤ 12
  pub day_low : 1 ≤ d
  pub day_high : d ≤ month_length y m

pub bounded : (y m d : ℕ) → is_date y m d ≡ true → Bounded y m d
unfolding is_date
bounded y m d e =
    let p5 = and_parts _ _ e in
    let p4 = and_parts _ _ p5.0 in
    let p3 = and_parts _ _ p4.0 in
    let p2 = and_parts _ _ p3.0 in
    let p1 = and_parts _ _ p2.0 in
    record {
      year_low = leb-true _ _ p1.0;
      year_high = leb-true _ _ p1.1;
      month_low = leb-true _ _ p2.1;
      month_high = leb-true _ _ p3.1;
      day_low = leb-true _ _ p4.1;
      day_high = leb-true _ _ p5.1;
    }
