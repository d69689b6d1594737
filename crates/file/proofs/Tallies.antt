-- The tally of a span, one slot more at a time.
use mathlib.Core.Bool.{true, false, ◌||◌, or-false}
use mathlib.Core.Logic.{⊎_elim}
use mathlib.Core.Path.{◌≡◌, refl, sym}
use mathlib.Core.List.{List}
use Prim.Native.Nat.{ℕ, ◌+◌}
use borrow.Author.Tests.{eqb-true}
use lib.Dec.{eqb}
use Rattle.base.specs.Lists.{sum, any}
use Rattle.base.proofs.Logic.{and_parts, or_parts}
use Rattle.base.proofs.Sums.{sum_more, any_more}
use Rattle.rules.specs.declared.Quality.TheVariants.{A, S, F, N}
use Rattle.file.specs.declared.slots.SlotRecord.{SlotRecord}
use Rattle.file.specs.declared.slots.Tally.{Tally}
use Rattle.file.specs.Reader.{of_quality, is_form, scaled, unscaled, slot_at}
use Rattle.file.specs.Inner.Reading.{is_plain, is_kindless, tallied_with, tallied_in}

-- ---- A slot of no kind adds its value alone

-- a record of no kind
record Kindless (r : SlotRecord) : Type 0 where
  none : of_quality N r ≡ false
  scaled : scaled r ≡ false
  unscaled : unscaled r ≡ false
  substituted : of_quality S r ≡ false

module _ (r : SlotRecord) where
  plain_kindless : is_plain r ≡ true → Kindless r
  plain_kindless e =
      let p = and_parts (of_quality A r) (eqb r.method 0) e in
      let l : r.letter ≡ 65 = eqb-true _ _ p.0 in
      let m : r.method ≡ 0 = eqb-true _ _ p.1 in
      record { none = rw l; scaled = rw m; unscaled = rw l; substituted = rw l }

  agreed_kindless : is_form F 5 r ≡ true → Kindless r
  agreed_kindless e =
      let p = and_parts (of_quality F r) (eqb r.method 5) e in
      let l : r.letter ≡ 70 = eqb-true _ _ p.0 in
      let m : r.method ≡ 5 = eqb-true _ _ p.1 in
      record { none = rw l; scaled = rw m; unscaled = rw l; substituted = rw l }

  abbrev summed : Tally → Tally
  summed t = record { none = t.none; scaled = t.scaled; unscaled = t.unscaled; substituted = t.substituted; sum = t.sum + r.value }

  pub tallied_kindless : is_kindless r ≡ true → (t : Tally) → summed t ≡ tallied_with t r
  tallied_kindless e t =
      let no = ⊎_elim plain_kindless agreed_kindless (or_parts (is_plain r) (is_form F 5 r) e) in
      let n : t.none ≡ (t.none || of_quality N r) = rw (no.none, or-false) in
      let s : t.scaled ≡ (t.scaled || scaled r) = rw (no.scaled, or-false) in
      let u : t.unscaled ≡ (t.unscaled || unscaled r) = rw (no.unscaled, or-false) in
      let m : t.substituted ≡ (t.substituted || of_quality S r) = rw (no.substituted, or-false) in
      λ k. record { none = n k; scaled = s k; unscaled = u k; substituted = m k; sum = t.sum + r.value }

-- ---- One slot more

module _ (bs : List ℕ) (a : ℕ) where
  pub tallied_none : record { none = false; scaled = false; unscaled = false; substituted = false; sum = 0 } ≡ tallied_in bs a 0
  unfolding tallied_in sum any
  tallied_none = refl

  pub tallied_on : (i : ℕ) → tallied_with (tallied_in bs a i) (slot_at bs (a + i)) ≡ tallied_in bs a (i + 1)
  unfolding tallied_in
  tallied_on i = λ k. record {
    none = sym (any_more (λ x. of_quality N (slot_at bs x)) a i) k;
    scaled = sym (any_more (λ x. scaled (slot_at bs x)) a i) k;
    unscaled = sym (any_more (λ x. unscaled (slot_at bs x)) a i) k;
    substituted = sym (any_more (λ x. of_quality S (slot_at bs x)) a i) k;
    sum = sym (sum_more (λ x. (slot_at bs x).value) a i) k;
  }
