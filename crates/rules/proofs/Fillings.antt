-- The rule that fills a slot; what holds of all that the rules can give holds of a filled slot, and so for a slot of a span.
use mathlib.Core.Bool.{true, false, ◌&&◌}
use mathlib.Core.List.{List}
use mathlib.Core.Logic.{⊎_elim}
use mathlib.Core.Path.{◌≡◌}
use Prim.Native.Nat.{ℕ, ◌+◌}
use lib.Dec.{eqb}
use lib.ListN.{get_or}
use Rattle.base.proofs.Logic.{and_parts, either}
use Rattle.rules.specs.declared.Head.{Head}
use Rattle.rules.specs.declared.Outcome.{Outcome}
use Rattle.rules.specs.declared.Quality.TheVariants.{A, S, F}
use Rattle.rules.specs.Opening.{Slots, Agreed, Cells}
use Rattle.rules.specs.Tests.{good_at}
use Rattle.rules.specs.Filling.{is_agreed, is_outage_zero, is_linear, linear_value, references, from_references, filled_at}
use Rattle.rules.specs.Spans.{is_s, filled, state_of, new_value, in_span}
use Rattle.rules.specs.Inner.Walks.{agreed_of}

-- the first rule that applies to a slot with a cause
module _ (h : Head) (s : Slots) (a : Agreed) (holidays : List ℕ) (i : ℕ) (cause : good_at h s i ≡ false) where
  pub filled_agreed : is_agreed a.versions i ≡ true → agreed_of (get_or a.values i 0) ≡ filled_at h s a holidays i
  unfolding filled_at
  filled_agreed t = rw (cause, t)

  module _ (t : is_agreed a.versions i ≡ false) where
    pub filled_zero : is_outage_zero h s i ≡ true → record { value = 0; quality = A; method = 1 } ≡ filled_at h s a holidays i
    unfolding filled_at
    filled_zero z = rw (cause, t, z)

    module _ (z : is_outage_zero h s i ≡ false) where
      pub filled_line : (v : ℕ) → v ≡ linear_value h s a.versions i → is_linear h s a.versions i ≡ true
          → record { value = v; quality = S; method = 2 } ≡ filled_at h s a holidays i
      unfolding filled_at
      filled_line v e l = rw (cause, t, z, l, e)

      pub filled_rest : is_linear h s a.versions i ≡ false → from_references (references h s holidays i) ≡ filled_at h s a holidays i
      unfolding filled_at
      filled_rest l = rw (cause, t, z, l)

module _ (P : Outcome → Type 0) where
  -- a slot before its span is scaled
  pub filled_by : (h : Head) (s : Slots) (a : Agreed) (holidays : List ℕ) (i : ℕ)
      → (good_at h s i ≡ true → P (record { value = get_or s.values i 0; quality = A; method = 0 }))
      → P (record { value = get_or a.values i 0; quality = F; method = 5 })
      → P (record { value = 0; quality = A; method = 1 })
      → (is_linear h s a.versions i ≡ true → P (record { value = linear_value h s a.versions i; quality = S; method = 2 }))
      → P (from_references (references h s holidays i))
      → P (filled_at h s a holidays i)
  unfolding filled_at
  filled_by h s a holidays i good agreed outage linear rest =
      ⊎_elim (λ e. rw e (good e)) (λ e. rw e (
      ⊎_elim (λ t. rw t agreed) (λ t. rw t (
      ⊎_elim (λ f. rw f outage) (λ f. rw f (
      ⊎_elim (λ g. rw g (linear g)) (λ g. rw g rest)
      (either (is_linear h s a.versions i))))
      (either (is_outage_zero h s i))))
      (either (is_agreed a.versions i))))
      (either (good_at h s i))

  -- a slot of a span
  pub spanned_by_lem : (h : Head) (b : Cells) (first last i : ℕ)
      → (is_s (filled h b first last i).quality ≡ true → P (record {
        value = new_value h b first last i;
        quality = S;
        method = (filled h b first last i).method + 16;
      }))
      → P (filled h b first last i)
      → P (in_span h b first last i)
  unfolding in_span
  spanned_by_lem h b first last i scaled kept =
      ⊎_elim (λ t. rw t (scaled (and_parts _ _ t).0)) (λ t. rw t kept)
      (either (is_s (filled h b first last i).quality && eqb (state_of h b first last) 1))
