-- The value of a slot from that of the same position a day earlier.
use mathlib.Core.Logic.{⊎_elim}
use mathlib.Core.Path.{◌≡◌, sym, ap, ap₂, ◌∙◌}
use Prim.Native.Nat.{ℕ, suc, ◌+◌, ◌-◌, ◌*◌, ◌/◌, ◌%◌, ◌≤◌, ◌<◌}
use native.Mathlib.Nat.{zero-add, zero-mul, mod-eq_of_lt, mod-eq-sub-mod, mod-lt, mod-add-mod, div-eq_of_lt, div-eq-sub-div, div-add-mod'}
use native.Mathlib.Numerals.{add-one}
use borrow.Author.Tests.{lt-ltb, le-ltb, ltb-true, ltb-false}
use lib.Dec.{lit<, ltb}
use mathlib.Core.List.{List}
use Rattle.base.specs.Lists.{sum}
use Rattle.base.proofs.Logic.{either}
use Rattle.strips.specs.Strips.{day_earlier, difference_in, restored_value}

earlier_first : (n : ℕ) (v : ℕ → ℕ) (i : ℕ) → i < n → day_earlier n v i ≡ 0
unfolding day_earlier
earlier_first n v i l = rw (lt-ltb i n l)

earlier_later : (n : ℕ) (v : ℕ → ℕ) (i : ℕ) → n ≤ i → day_earlier n v i ≡ v (i - n)
unfolding day_earlier
earlier_later n v i l = rw (le-ltb i n l)

-- two values that agree a day earlier
pub earlier_cong : (n : ℕ) (v w : ℕ → ℕ) (i : ℕ) → (n ≤ i → v (i - n) ≡ w (i - n)) → day_earlier n v i ≡ day_earlier n w i
unfolding day_earlier
earlier_cong n v w i h = ⊎_elim (λ e. rw e) (λ e. rw (e, h (ltb-false i n e))) (either (ltb i n))

pub earlier_lt : (n : ℕ) (v : ℕ → ℕ) (i : ℕ) → ((j : ℕ) → v j < 4_294_967_296) → day_earlier n v i < 4_294_967_296
unfolding day_earlier
earlier_lt n v i h = ⊎_elim (λ e. rw e (lit< tt)) (λ e. rw e (h (i - n))) (either (ltb i n))

module _ (n : ℕ) (positive : 0 < n) (g : ℕ → ℕ) where
  -- what g gives at a slot's position, summed from the first day to its own
  abbrev running : ℕ → ℕ
  running i = sum (λ day. g (day * n + i % n)) 0 (suc (i / n))

  running_first : (i : ℕ) → i < n → running i ≡ g i
  unfolding sum
  running_first i l = rw (div-eq_of_lt l, mod-eq_of_lt l) (zero-add (g ((0 + 0) * n + i)) ∙ ap g (rw (zero-mul, zero-add)))

  running_later : (i : ℕ) → n ≤ i → running i ≡ running (i - n) + g i
  unfolding sum
  running_later i l =
      let q : i / n ≡ suc ((i - n) / n) = div-eq-sub-div positive l ∙ add-one ((i - n) / n) in
      let r : i % n ≡ (i - n) % n = mod-eq-sub-mod l in
      let here : (0 + suc ((i - n) / n)) * n + (i - n) % n ≡ i =
      rw zero-add (ap₂ (λ (x y : ℕ). x * n + y) (sym q) (sym r) ∙ div-add-mod' i n) in
      ap₂ (λ (x y : ℕ). sum (λ day. g (day * n + y)) 0 (suc x)) q r
      ∙ ap (λ (x : ℕ). sum (λ day. g (day * n + (i - n) % n)) 0 (suc ((i - n) / n)) + g x) here

-- slot i's difference added to the value a day earlier
pub restored_next : (n : ℕ) → 0 < n → (strips : List ℕ) (i : ℕ)
    → (day_earlier n (restored_value n strips) i + difference_in strips i) % 4_294_967_296 ≡ restored_value n strips i
unfolding restored_value
restored_next n z strips i =
    let g : ℕ → ℕ = difference_in strips in
    ⊎_elim
    (λ e. let l : i < n = ltb-true i n e in
    ap (λ (x : ℕ). (x + g i) % 4_294_967_296) (earlier_first n (restored_value n strips) i l)
    ∙ ap (λ (x : ℕ). x % 4_294_967_296) (zero-add (g i) ∙ sym (running_first n z g i l)))
    (λ e. let l : n ≤ i = ltb-false i n e in
    ap (λ (x : ℕ). (x + g i) % 4_294_967_296) (earlier_later n (restored_value n strips) i l)
    ∙ mod-add-mod (running n z g (i - n)) 4_294_967_296 (g i) ∙ ap (λ (x : ℕ). x % 4_294_967_296) (sym (running_later n z g i l)))
    (either (ltb i n))

pub restored_lt : (n : ℕ) (strips : List ℕ) (i : ℕ) → restored_value n strips i < 4_294_967_296
unfolding restored_value
restored_lt n strips i = mod-lt _ (lit< tt)
