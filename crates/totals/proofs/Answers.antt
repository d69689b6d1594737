-- The answer from the outcomes of its tests.
use Rattle.std.specs.Prelude.{Ok, Err}
use mathlib.Core.Bool.{true, false}
use mathlib.Core.List.{List, []}
use mathlib.Core.Path.{◌≡◌, refl}
use Prim.Native.Nat.{ℕ}
use lib.ListN.{length}
use Rattle.base.specs.declared.Refusal.TheVariants.{WrongPairs, WrongStay}
use Rattle.base.specs.Lists.{every, all}
use Rattle.file.specs.declared.Figures.{Figures}
use Rattle.file.specs.Reader.{read_file}
use Rattle.file.proofs.Answers.{figures_are}
use Rattle.totals.specs.Stays.{list_tests, pairs_ok, totals_of, stays_answer, stays_after}

module _ (bs : List ℕ) (g : Figures) (e : read_file bs ≡ Ok g) where
  -- "A list of no pairs is fine."
  pub no_pairs : stays_answer bs [] [] ≡ Ok tt
  unfolding stays_answer all
  no_pairs = rw e

  module _ (pairs totals : List ℕ) where
    pub refused_18 : every (list_tests pairs (length totals)) ≡ false
        → (Err WrongPairs ≡ stays_answer bs pairs totals) × (totals ≡ stays_after bs pairs totals)
    unfolding stays_after stays_answer
    refused_18 p = rw (e, p) (refl, refl)

    module _ (lists : every (list_tests pairs (length totals)) ≡ true) where
      pub refused_19 : pairs_ok g.days pairs ≡ false
          → (Err WrongStay ≡ stays_answer bs pairs totals) × (totals ≡ stays_after bs pairs totals)
      unfolding stays_after stays_answer
      refused_19 q = rw (e, figures_are bs g e, lists, q) (refl, refl)

      pub done : pairs_ok g.days pairs ≡ true → (Ok tt ≡ stays_answer bs pairs totals) × (totals_of bs pairs ≡ stays_after bs pairs totals)
      unfolding stays_after stays_answer
      done q = rw (e, figures_are bs g e, lists, q) (refl, refl)
