-- The outage rule slot by slot, and what a pass knows of it.
use mathlib.Core.Bool.{Bool, true, false, cond, false≢true}
use mathlib.Core.List.{List}
use mathlib.Core.Path.{◌≡◌, refl, sym, ◌∙◌}
use Prim.Native.Nat.{ℕ, suc, ◌+◌, ◌-◌, ◌≤◌, ◌<◌}
use native.Mathlib.Nat.{add-suc}
use native.Mathlib.Numerals.{add-one}
use native.Mathlib.Omega.{arith}
use borrow.Author.Tests.{eq-eqb, ne_eqb}
use lib.Dec.{eqb}
use lib.ListN.{get_or}
use Rattle.rules.specs.declared.Head.{Head}
use Rattle.std.specs.Prelude.{Option, Some}
use Rattle.rules.specs.declared.tests.Cause.{Cause}
use Rattle.rules.specs.declared.tests.Cause.TheVariants.{Gap}
use Rattle.rules.specs.Opening.{Slots, Agreed, slot_count}
use Rattle.rules.specs.Tests.{is_gap, outage_bit, is_good, cause_of, cause_at, good_at}
use Rattle.rules.specs.Filling.{outage_at, outage_before, outage_after, is_outage_zero, in_run, filled_at}
use Rattle.rules.specs.Inner.Walks.{actual_of, zero_at, zero_before}
use Rattle.rules.proofs.Runs.{run_unzeroed}

module _ (v s : List ℕ) where
  pub gap : (i : ℕ) → get_or v i 0 ≡ 0 → is_gap v i ≡ true
  unfolding is_gap
  gap i e = eq-eqb _ _ e

  pub delivered : (i : ℕ) → (get_or v i 0 ≡ 0 → ⊥) → is_gap v i ≡ false
  unfolding is_gap
  delivered i e = ne_eqb _ _ e

  pub after_end : (n j : ℕ) → n ≤ j → outage_after v s j (n - j) ≡ false
  unfolding outage_after
  after_end n j p =
      let e : n - j ≡ 0 = omega arith in
      rw e

  pub after_gap : (n j : ℕ) → j < n → is_gap v j ≡ true → outage_after v s j (n - j) ≡ outage_after v s (j + 1) (n - (j + 1))
  unfolding outage_after
  after_gap n j p g =
      let e : n - j ≡ suc (n - suc j) = omega arith in
      rw (add-one j, e, g)

  pub after_delivered : (n j : ℕ) → j < n → is_gap v j ≡ false → outage_after v s j (n - j) ≡ outage_bit (get_or s j 0)
  unfolding outage_after outage_at
  after_delivered n j p g =
      let e : n - j ≡ suc (n - suc j) = omega arith in
      simp (e, g)

  -- a delivered slot
  pub zero_none : (n i : ℕ) → is_gap v i ≡ false → zero_at v s n i ≡ false
  unfolding zero_at
  zero_none n i g = simp g

  -- the first slot of the book
  pub zero_first : (n i : ℕ) → i ≡ 0 → is_gap v i ≡ true → zero_at v s n i ≡ outage_after v s i (n - i)
  unfolding zero_at outage_before
  zero_first n i e g = rw (g, e)

  -- slot i, a gap behind slot j
  module _ (n i j : ℕ) (e : i ≡ suc j) (l : i < n) (g : is_gap v i ≡ true) where
    -- inside a run the answer for the slot before stands
    pub zero_kept : is_gap v j ≡ true → zero_before v s n i ≡ zero_at v s n i
    unfolding zero_before zero_at outage_before
    zero_kept d =
        let a : outage_after v s j (n - j) ≡ outage_after v s (suc j) (n - suc j) = rw add-one at (after_gap n j (omega arith) d) in
        let k : is_gap v (suc j) ≡ true = rw e at g in
        rw (e, d, k, a)

    -- at its first slot the slot before is looked at
    module _ (d : is_gap v j ≡ false) where
      before_run : outage_before v s i ≡ outage_bit (get_or s j 0)
      unfolding outage_before outage_at
      before_run = rw (e, d)

      pub zero_before_lem : outage_bit (get_or s j 0) ≡ true → zero_at v s n i ≡ true
      unfolding zero_at
      zero_before_lem o = rw (g, before_run, o)

      pub zero_after : outage_bit (get_or s j 0) ≡ false → zero_at v s n i ≡ outage_after v s i (n - i)
      unfolding zero_at
      zero_after o = rw (g, before_run, o)

  -- one slot on, k slots behind slot i
  pub zero_on : (n i k : ℕ) → zero_at v s n (i + k) ≡ zero_before v s n (i + (k + 1))
  unfolding zero_before
  zero_on n i k = rw (add-one, add-suc)

module _ (h : Head) (s : Slots) where
  pub zero_applies : (n : ℕ) → n ≡ slot_count h → (i : ℕ) → zero_at s.versions s.statuses n i ≡ is_outage_zero h s i
  unfolding zero_at is_outage_zero
  zero_applies n l i = rw l

  -- a good slot is delivered
  pub good_delivered : (i : ℕ) → good_at h s i ≡ true → is_gap s.versions i ≡ false
  unfolding good_at cause_at cause_of is_gap
  good_delivered i = go (eqb (get_or s.versions i 0) 0) _
    where
      go : (t : Bool) (x : Option Cause) → is_good (cond t (Some Gap) x) ≡ true → t ≡ false
      go true x e = absurd (false≢true e)
      go false x e = refl

  pub filled_good : (a : Agreed) (holidays : List ℕ) (i : ℕ) → good_at h s i ≡ true
      → actual_of (get_or s.values i 0) ≡ filled_at h s a holidays i
  unfolding filled_at
  filled_good a holidays i g = rw g

  -- a slot of a run is not zeroed
  pub run_not_zeroed : (v : List ℕ) (n i : ℕ) → n ≡ slot_count h → in_run h s v i ≡ true
      → false ≡ zero_before s.versions s.statuses n (suc i)
  unfolding zero_before
  run_not_zeroed v n i l e = sym (zero_applies n l i ∙ run_unzeroed h s v i e)
