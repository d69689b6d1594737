-- One limit of a harbour's table: what the code tests of it.
use mathlib.Core.Bool.{true, false, and-false}
use mathlib.Core.List.{List}
use mathlib.Core.Path.{◌≡◌, refl}
use Prim.Native.Nat.{ℕ, ◌+◌, ◌≤◌, ◌<◌}
use native.Mathlib.Numerals.{add-one}
use borrow.Author.Tests.{le-leb, lt-leb, lt-ltb, le-ltb}
use lib.ListN.{get_or}
use Rattle.rules.specs.Numbers.{most_limit}
use Rattle.rules.specs.Limits.{limit_before, rises_at}

pub before_first : (table : List ℕ) → 0 ≡ limit_before table 0
unfolding limit_before
before_first table = refl

pub before_on : (table : List ℕ) (i : ℕ) → get_or table i 0 ≡ limit_before table (i + 1)
unfolding limit_before
before_on table i = rw (add-one i)

module _ (table : List ℕ) (i before : ℕ) (e : before ≡ limit_before table i) where
  pub not_above : get_or table i 0 ≤ before → rises_at table i ≡ false
  unfolding rises_at
  not_above p = rw (← e, le-ltb _ _ p)

  pub too_high : most_limit < get_or table i 0 → rises_at table i ≡ false
  unfolding rises_at
  too_high p = rw (lt-leb _ _ p, and-false)

  pub rises : before < get_or table i 0 → get_or table i 0 ≤ most_limit → rises_at table i ≡ true
  unfolding rises_at
  rises p q = rw (← e, lt-ltb _ _ p, le-leb _ _ q)
