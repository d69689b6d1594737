-- One week of a search for references, with what is kept of each.
use mathlib.Core.Bool.{true, false}
use mathlib.Core.List.{List, [], ◌∷◌}
use mathlib.Core.Path.{◌≡◌, refl, ap, ◌∙◌}
use Prim.Native.Nat.{ℕ, zero, suc, ◌-◌, ◌*◌, ◌≤◌, ◌<◌}
use native.Mathlib.Omega.{arith}
use borrow.Author.Tests.{lt-ltb, le-ltb}
use Rattle.rules.specs.declared.Head.{Head}
use Rattle.rules.specs.Opening.{Slots, slots_per_day}
use Rattle.rules.specs.Filling.{is_reference}
use Rattle.rules.specs.References.{each_week}

-- where the search ends, and one week of it
module _ (f : ℕ → ℕ) (h : Head) (s : Slots) (holidays : List ℕ) (days j : ℕ) where
  abbrev earlier : ℕ
  earlier = j - days * slots_per_day h

  pub each_none : each_week f h s holidays days j 0 ≡ []
  unfolding each_week
  each_none = refl

  pub each_out : (k : ℕ) → j < days * slots_per_day h → each_week f h s holidays days j k ≡ []
  unfolding each_week
  each_out zero p = refl
  each_out (suc k) p = simp (lt-ltb _ _ p)

  module _ (k : ℕ) (more : k ≡ 0 → ⊥) (inside : days * slots_per_day h ≤ j) where
    one_more : k ≡ suc (k - 1)
    one_more = omega (arith, more)

    pub each_found : is_reference h s holidays earlier ≡ true
        → each_week f h s holidays days j k ≡ f earlier ∷ each_week f h s holidays 7 earlier (k - 1)
    unfolding each_week
    each_found e = ap (each_week f h s holidays days j) one_more ∙ simp (le-ltb _ _ inside, e)

    pub each_passed : is_reference h s holidays earlier ≡ false
        → each_week f h s holidays days j k ≡ each_week f h s holidays 7 earlier (k - 1)
    unfolding each_week
    each_passed e = ap (each_week f h s holidays days j) one_more ∙ simp (le-ltb _ _ inside, e)
