-- The slots of a span that passes its tests are among the file's.
use mathlib.Core.Path.{◌≡◌, sym, ap, ◌∙◌}
use mathlib.Core.Bool.{true}
use mathlib.Core.List.{List}
use Prim.Native.Nat.{ℕ, suc, ◌+◌, ◌-◌, ◌*◌, ◌≤◌, ◌<◌}
use native.Mathlib.Nat.{add-mul, mul_comm, mul-le-mul_right}
use native.Mathlib.Omega.{arith}
use borrow.Author.Tests.{ltb-true, leb-true, eqb-true, lt-ltb}
use lib.Dec.{ltb, eqb}
use lib.ListN.{length}
use Rattle.base.specs.Lists.{all}
use Rattle.base.proofs.Logic.{passed}
use Rattle.base.proofs.Sums.{all_at}
use Rattle.file.specs.declared.Figures.{Figures}
use Rattle.file.specs.Reader.{Tables, span_tests, span_ok, start_of, slots_of, file_slots, tables_at}
use Rattle.file.specs.Inner.Reading.{Ready}
use Rattle.file.proofs.Head.{slots_le}

-- a stretch between two boundaries ends where the later one is
stretch : (a b n : ℕ) → a ≤ b → a * n + (b - a) * n ≡ b * n
stretch a b n l = let e : a + (b - a) ≡ b = omega arith in sym (add-mul a (b - a) n) ∙ ap (λ (m : ℕ). m * n) e

module _ (t : Tables) where
  -- a boundary's slot is within the slots
  pub within : (b : ℕ) → b ≤ t.days → b * t.per_day ≤ t.per_day * t.days
  within b l = rw (mul_comm t.per_day t.days) (mul-le-mul_right t.per_day l)

  module _ (j : ℕ) (ok : span_ok t j ≡ true) where
    pub ordered : ((t.span j).first < (t.span j).last) × ((t.span j).last ≤ t.days)
    unfolding span_ok
    ordered = (ltb-true _ _ (passed (span_tests t j) ok 0), leb-true _ _ (passed (span_tests t j) ok 1))

    pub ends : start_of t j + slots_of t j ≤ t.per_day * t.days
    ends = rw (stretch (t.span j).first (t.span j).last t.per_day (omega (arith, ordered))) (within (t.span j).last ordered.1)

-- each span but the first begins where the one before ended
pub follow : (t : Tables) → all (span_ok t) 0 t.spans ≡ true → (j : ℕ) → suc j < t.spans → (t.span (suc j)).first ≡ (t.span j).last
unfolding span_ok
follow t ok j l =
    let e : suc j - 1 ≡ j = omega arith in
    let later : ltb 0 (suc j) ≡ true = lt-ltb 0 (suc j) (omega arith) in
    let test = passed (span_tests t (suc j)) (all_at (span_ok t) t.spans ok (suc j) l) 2 in
    let same : eqb (t.span (suc j)).first (t.span (suc j - 1)).last ≡ true = rw later at test in
    eqb-true _ _ same ∙ ap (λ (i : ℕ). (t.span i).last) e

-- the slots of a file that is not refused with 8
pub record Room (bs : List ℕ) (g : Figures) : Type 0 where
  pub few : file_slots g ≤ 115_200
  pub long : 6 * file_slots g ≤ length bs

pub room : (bs : List ℕ) (g : Figures) → Ready bs g → Room bs g
room bs g r = record { few = slots_le g.first g.days g.interval r.head; long = omega (arith, r.long) }

-- where span j lies, when every span passes its tests
pub record Inside (bs : List ℕ) (g : Figures) (j : ℕ) : Type 0 where
  pub few : file_slots g ≤ 115_200
  pub long : 6 * file_slots g ≤ length bs
  pub start : ((tables_at bs g).span j).first * (tables_at bs g).per_day ≤ file_slots g
  pub end : ((tables_at bs g).span j).last * (tables_at bs g).per_day ≤ file_slots g

pub inside : (bs : List ℕ) (g : Figures) → Ready bs g → all (span_ok (tables_at bs g)) 0 g.spans ≡ true → (j : ℕ) → j < g.spans
    → Inside bs g j
inside bs g r ok j l =
    let t = tables_at bs g in
    let here = all_at _ g.spans ok j l in
    record {
      few = (room bs g r).few;
      long = (room bs g r).long;
      start = omega (arith, ends t j here);
      end = within t (t.span j).last (ordered t j here).1;
    }
