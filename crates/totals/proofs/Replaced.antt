-- A loop that replaces the elements of a list from the front, one a turn.
use mathlib.Core.List.{List}
use mathlib.Core.Logic.{⊎_elim}
use mathlib.Core.Path.{◌≡◌, refl, sym, ap, ◌∙◌}
use Prim.Native.Nat.{ℕ, ◌+◌, ◌≤◌, ◌<◌}
use native.Mathlib.Nat.{zero-add, not-suc-le-zero, eq-or-lt_of_le, ne_of_lt, ne_of_gt}
use native.Mathlib.Omega.{arith}
use lib.ListN.{length, get_or, set, length-set}
use lib.Seq.{get_or-set_same, get_or-set_other, ext_get_or}
use Rattle.base.specs.Lists.{up_to}
use Rattle.base.proofs.Lists.{length_up_to, get_d_up_to}

-- the list d after k turns
pub record Replaced (f : ℕ → ℕ) (d list : List ℕ) (k : ℕ) : Type 0 where
  pub size : length list ≡ length d
  pub done : (j : ℕ) → j < k → get_or list j 0 ≡ f j
  pub left : (j : ℕ) → k ≤ j → get_or list j 0 ≡ get_or d j 0

module _ (f : ℕ → ℕ) (d : List ℕ) where
  pub replaced_none : Replaced f d d 0
  replaced_none = record { size = refl; done = λ j l. absurd (not-suc-le-zero l); left = λ j l. refl }

  pub replaced_next : (list : List ℕ) (k v : ℕ) → Replaced f d list k → k < length list → v ≡ f k → Replaced f d (set list k v) (k + 1)
  replaced_next list k v r l e =
      record {
        size = length-set list k v ∙ r.size;
        done = λ j m.
            let near : j ≤ k = omega arith in
            ⊎_elim (λ z. rw z (get_or-set_same list k v 0 l ∙ e))
            (λ n. get_or-set_other list k j v 0 (ne_of_lt n) ∙ r.done j n)
            (eq-or-lt_of_le near);
        left = λ j m.
            let after : k < j = omega arith in
            let past : k ≤ j = omega arith in
            get_or-set_other list k j v 0 (ne_of_gt after) ∙ r.left j past;
      }

  pub replaced_all : (list : List ℕ) (k : ℕ) → Replaced f d list k → length list ≤ k → list ≡ up_to f 0 (length d)
  replaced_all list k r l =
      ext_get_or 0 list (up_to f 0 (length d)) (r.size ∙ sym (length_up_to f 0 (length d)))
      (λ j m.
      let size : length list ≡ length d = r.size in
      let here : j < k = omega arith in
      let within : j < length d = omega arith in
      r.done j here ∙ sym (get_d_up_to f 0 0 (length d) j within ∙ ap f (zero-add j)))
