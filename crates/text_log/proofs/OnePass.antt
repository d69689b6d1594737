-- A delivery's line in one pass: digits, a word of digits before a separator, four such words after the keyword.
use mathlib.Core.Bool.{Bool, true, false, not, ◌&&◌, false≢true}
use mathlib.Core.List.{List, [], ◌∷◌, ◌++◌, append_assoc, append-nil}
use mathlib.Core.Path.{◌≡◌, refl, sym, ◌∙◌}
use Prim.Native.Nat.{ℕ, zero, suc, ◌+◌, ◌-◌, ◌*◌, ◌^◌, ◌≤◌, ◌<◌}
use native.Mathlib.Nat.{pow-suc, zero-add}
use native.Mathlib.Omega.{arith}
use borrow.Author.Tests.{eq-eqb, ne_eqb, le-leb, le-ltb, leb-true}
use lib.Dec.{eqb, leb}
use lib.ListN.{length, get_or, take, drop, length-append, length-drop, take-append-drop}
use lib.Seq.{take-suc, split_at, get_or-drop, drop-drop, length-take-le}
use Rattle.base.proofs.Logic.{and_parts}
use Rattle.book.specs.Arguments.Call.{delivery}
use Rattle.book.specs.declared.calls.Call.TheVariants as coded
use Rattle.text_log.specs.declared.deliveries.Delivery.{Delivery}
use Rattle.text_log.specs.declared.line.LogLine.TheVariants.{Fill}
use Rattle.text_log.specs.Numbers.{is_digit, are_digits, value_after, value_of, is_number}
use Rattle.text_log.specs.Words.{split, words, same, are_numbers}
use Rattle.text_log.specs.Line.{delivery_word, delivery_of, call_of, without_cr, is_passed, limits_of, words_entry}
use Rattle.text_log.specs.Line.{entry_of}
use Rattle.text_log.specs.Log.{with_byte, lines, item_in, item_of, items}
use Rattle.text_log.specs.Log.Item.{call}
use Rattle.text_log.specs.Inner.Lines.{FoundAt}
use Rattle.text_log.specs.Inner.Deliveries.{DigitsAt, FieldAt, NumbersAt, KeyedAt, DeliveryAt}

-- ---- Digits

digits_more : (w : List ℕ) (b : ℕ) → are_digits w ≡ true → is_digit b ≡ true → are_digits (w ++ (b ∷ [])) ≡ true
unfolding are_digits
digits_more [] b p q = rw q
digits_more (a ∷ w) b p q =
    let both = and_parts (is_digit a) (are_digits w) p in
    rw (both.0, digits_more w b both.1 q)

value_more : (n : ℕ) (w : List ℕ) (b : ℕ) → value_after n (w ++ (b ∷ [])) ≡ 10 * value_after n w + (b - 48)
unfolding value_after
value_more n [] b = refl
value_more n (a ∷ w) b = value_more (10 * n + (a - 48)) w b

-- one place more of a part
part_more : (bytes : List ℕ) (at i : ℕ) → at ≤ i → i < length bytes
    → take ((i + 1) - at) (drop at bytes) ≡ take (i - at) (drop at bytes) ++ (get_or bytes i 0 ∷ [])
part_more bytes at i m l =
    let next : (i + 1) - at ≡ suc (i - at) = omega arith in
    let inside : i - at < length (drop at bytes) = rw length-drop (omega arith) in
    let place : at + (i - at) ≡ i = omega arith in
    rw next (take-suc (drop at bytes) (i - at) 0 inside ∙ rw (get_or-drop, place))

module _ {bytes : List ℕ} {from : ℕ} where
  digits_begin : from ≤ length bytes → DigitsAt bytes from 0 from
  unfolding are_digits value_after
  digits_begin l =
      let z : from - from ≡ 0 = omega arith in
      record { begun = omega arith; near = omega arith; inside = l; digits = rw z; valued = rw z; low = omega arith }

  digits_next : {value i : ℕ} → DigitsAt bytes from value i → i < from + 9 → i < length bytes → 48 ≤ get_or bytes i 0
      → get_or bytes i 0 ≤ 57 → value ≤ 99_999_999
      → DigitsAt bytes from (10 * value + (get_or bytes i 0 - 48)) (i + 1)
  digits_next {value} {i} d n l p q low =
      let digit : is_digit (get_or bytes i 0) ≡ true = rw (le-leb _ _ p, le-leb _ _ q) in
      let part = part_more bytes from i d.begun l in
      record {
        begun = omega (arith, d.begun);
        near = omega arith;
        inside = omega arith;
        digits = rw part (digits_more (take (i - from) (drop from bytes)) (get_or bytes i 0) d.digits digit);
        valued = rw (part, value_more 0 (take (i - from) (drop from bytes)) (get_or bytes i 0), d.valued);
        low = omega arith;
      }

  -- a separator after them
  pub field_of : {value end separator : ℕ} → DigitsAt bytes from value end → (end ≡ from → ⊥) → end < length bytes
      → get_or bytes end 0 ≡ separator → FieldAt bytes from separator value (end + 1)
  field_of {value} {end} {separator} d some l e =
      let k = end - from in
      let inside : k < length (drop from bytes) = rw length-drop (omega (arith, d.begun)) in
      let place : from + k ≡ end = omega (arith, d.begun) in
      let after : from + suc k ≡ end + 1 = omega (arith, d.begun) in
      let long : length (take k (drop from bytes)) ≡ k = length-take-le k (drop from bytes) (omega arith) in
      record {
        word = take k (drop from bytes);
        some = λ z. some (omega (arith, d.begun));
        digits = d.digits;
        valued = d.valued;
        low = d.low;
        text = split_at (drop from bytes) k 0 inside ∙ rw (get_or-drop, place, e, drop-drop, after);
        end = rw long (omega (arith, d.begun));
        near = omega (arith, d.near);
        inside = omega arith;
      }

-- ---- Nine digits at most

ten_more : (j k : ℕ) → 10 ^ k ≤ 10 ^ (j + k)
ten_more zero k = rw zero-add (omega arith)
ten_more (suc j) k =
    let longer : suc j + k ≡ suc (j + k) = omega arith in
    rw longer (omega (arith, ten_more j k, pow-suc 10 (j + k)))

-- digits up to place i, of nine
pub record Few (bytes : List ℕ) (from value i : ℕ) : Type 0 where
  pub digits : DigitsAt bytes from value i
  pub low : value < 10 ^ (i - from)

module _ {bytes : List ℕ} {from : ℕ} (room : from + 9 ≤ length bytes) where
  pub few_begin : Few bytes from 0 from
  few_begin =
      let none : from - from ≡ 0 = omega arith in
      record { digits = digits_begin (omega arith); low = rw none (omega arith) }

  -- there are eight at most before another one
  pub few_eight : {value i : ℕ} → Few bytes from value i → i < from + 9 → value ≤ 99_999_999
  few_eight {value} {i} f l =
      let k = i - from in
      let whole : 8 - k + k ≡ 8 = omega arith in
      let most : 10 ^ k ≤ 10 ^ 8 = rw whole at (ten_more (8 - k) k) in
      omega (arith, f.low, most)

  pub few_next : {value i : ℕ} → Few bytes from value i → i < from + 9 → 48 ≤ get_or bytes i 0 → get_or bytes i 0 ≤ 57
      → Few bytes from (10 * value + (get_or bytes i 0 - 48)) (i + 1)
  few_next {value} {i} f l p q =
      let longer : i + 1 - from ≡ suc (i - from) = omega (arith, f.digits.begun) in
      record {
        digits = digits_next f.digits l (omega arith) p q (few_eight f l);
        low = rw longer (omega (arith, f.low, p, q, pow-suc 10 (i - from)));
      }

-- ---- Bytes without a separator

-- no byte of the list is s
lacks : ℕ → List ℕ → Bool
lacks s [] = true
lacks s (b ∷ bs) = not (eqb b s) && lacks s bs

lacks_append : (s : ℕ) (u v : List ℕ) → lacks s u ≡ true → lacks s v ≡ true → lacks s (u ++ v) ≡ true
unfolding lacks
lacks_append s [] v p q = q
lacks_append s (b ∷ u) v p q =
    let both = and_parts (not (eqb b s)) (lacks s u) p in
    rw (both.0, lacks_append s u v both.1 q)

digits_lack : (s : ℕ) (w : List ℕ) → s < 48 → are_digits w ≡ true → lacks s w ≡ true
unfolding are_digits lacks
digits_lack s [] l p = refl
digits_lack s (b ∷ w) l p =
    let both = and_parts (is_digit b) (are_digits w) p in
    let low : 48 ≤ b = leb-true _ _ (and_parts (leb 48 b) (leb b 57) both.0).0 in
    rw (ne_eqb b s (λ e. omega arith), digits_lack s w l both.1)

lack_at : (s : ℕ) (w : List ℕ) → lacks s w ≡ true → (0 ≡ s → ⊥) → (i : ℕ) → get_or w i 0 ≡ s → ⊥
unfolding lacks
lack_at s [] p z i e = z e
lack_at s (b ∷ w) p z zero e = absurd (false≢true (rw (eq-eqb b s e) at (and_parts (not (eqb b s)) (lacks s w) p).0))
lack_at s (b ∷ w) p z (suc i) e = lack_at s w (and_parts (not (eqb b s)) (lacks s w) p).1 z i e

lacks_not : (s b : ℕ) (w : List ℕ) → lacks s (b ∷ w) ≡ true → (eqb b s ≡ false) × (lacks s w ≡ true)
unfolding lacks
lacks_not s b w p = go (eqb b s) (and_parts (not (eqb b s)) (lacks s w) p)
  where
    go : (t : Bool) → (not t ≡ true) × (lacks s w ≡ true) → (t ≡ false) × (lacks s w ≡ true)
    go true q = absurd (false≢true q.0)
    go false q = (refl, q.1)

lines_first : (w rest : List ℕ) → lacks 10 w ≡ true → lines (w ++ (10 ∷ rest)) ≡ w ∷ lines rest
unfolding lines with_byte
lines_first [] rest p = refl
lines_first (b ∷ w) rest p = let q = lacks_not 10 b w p in rw (q.0, lines_first w rest q.1)

split_first : (s : ℕ) (begun w rest : List ℕ) → lacks s w ≡ true → split s begun (w ++ (s ∷ rest)) ≡ (begun ++ w) ∷ split s [] rest
unfolding split
split_first s begun [] rest p = rw (eq-eqb s s refl, append-nil)
split_first s begun (b ∷ w) rest p =
    let q = lacks_not s b w p in
    rw q.0 (split_first s (begun ++ (b ∷ [])) w rest q.1 ∙ rw (append_assoc begun (b ∷ []) w))

split_last : (s : ℕ) (begun w : List ℕ) → lacks s w ≡ true → split s begun w ≡ (begun ++ w) ∷ []
unfolding split
split_last s begun [] p = rw append-nil
split_last s begun (b ∷ w) p =
    let q = lacks_not s b w p in
    rw q.0 (split_last s (begun ++ (b ∷ [])) w q.1 ∙ rw (append_assoc begun (b ∷ []) w))

-- ---- A delivery's line

module _ (a b c d : List ℕ) where
  -- the keyword and four words
  abbrev text : List ℕ
  text = delivery_word ++ (32 ∷ (a ++ (32 ∷ (b ++ (32 ∷ (c ++ (32 ∷ d)))))))

  module _ (p : are_digits a ≡ true) (q : are_digits b ≡ true) (r : are_digits c ≡ true) (u : are_digits d ≡ true) where
    text_lacks : (s : ℕ) → s < 32 → lacks s text ≡ true
    unfolding lacks
    text_lacks s l =
        let last = digits_lack s d (omega arith) u in
        let third = joined c d r last in
        let second = joined b (c ++ (32 ∷ d)) q third in
        let first = joined a (b ++ (32 ∷ (c ++ (32 ∷ d)))) p second in
        rw (
          other 100 (omega arith),
          other 101 (omega arith),
          other 108 (omega arith),
          other 105 (omega arith),
          other 118 (omega arith),
          other 114 (omega arith),
          other 121 (omega arith),
          other 32 (omega arith),
        ) first
      where
        other : (x : ℕ) → 32 ≤ x → eqb x s ≡ false
        other x m = ne_eqb x s (λ z. omega arith)

        joined : (w rest : List ℕ) → are_digits w ≡ true → lacks s rest ≡ true → lacks s (w ++ (32 ∷ rest)) ≡ true
        joined w rest k m = lacks_append s w (32 ∷ rest) (digits_lack s w (omega arith) k) (rw (other 32 (omega arith)) m)

    text_words : words text ≡ delivery_word ∷ a ∷ b ∷ c ∷ d ∷ []
    unfolding lacks
    text_words =
        let e = digits_lack 32 in
        split_first 32 [] delivery_word _ refl
        ∙ rw (
          split_first 32 [] a (b ++ (32 ∷ (c ++ (32 ∷ d)))) (e a (omega arith) p),
          split_first 32 [] b (c ++ (32 ∷ d)) (e b (omega arith) q),
          split_first 32 [] c d (e c (omega arith) r),
          split_last 32 [] d (e d (omega arith) u),
        )

    module _ (short : length text ≤ 255) where
      whole : without_cr text ≡ text
      unfolding without_cr
      whole = rw (ne_eqb _ _ (lack_at 13 text (text_lacks 13 (omega arith)) (λ z. omega arith) (length text - 1)))

      kept : is_passed text ≡ false
      unfolding is_passed
      kept = rw (ne_eqb (length text) 0 (λ z. omega arith))

      module _ (numbers : are_numbers 4 (a ∷ b ∷ c ∷ d ∷ []) ≡ true) where
        text_line : (entry_of text).line ≡ Fill (coded.Delivery (value_of a) (value_of b) (value_of c) (value_of d))
        unfolding entry_of words_entry call_of delivery_of same
        text_line = rw (whole, kept, le-ltb _ _ short, text_words, numbers)

        text_item : item_of text ≡ call (delivery (value_of a) (value_of b) (value_of c) (value_of d))
        unfolding item_of item_in
        text_item = rw text_line

field_number : {bytes : List ℕ} {from separator value next : ℕ} (f : FieldAt bytes from separator value next) → is_number f.word ≡ true
unfolding is_number
field_number f =
    let low : value_of f.word ≤ 4294967295 = omega (arith, f.valued, f.low) in
    rw (ne_eqb _ _ f.some, f.digits, le-leb _ _ low)

module _ (bytes : List ℕ) (at : ℕ) (r : Delivery) (keyed : KeyedAt bytes at 10 r) where
  abbrev n : NumbersAt bytes (at + 9) 10 r
  n = keyed.numbers

  -- the line's text
  abbrev found : List ℕ
  found = text n.slot.word n.version.word n.value.word n.status.word

  begins : drop at bytes ≡ found ++ (10 ∷ drop r.next bytes)
  begins =
      sym (take-append-drop 9 (drop at bytes))
      ∙ rw (keyed.begins, drop-drop, n.slot.text, n.version.text, n.value.text, n.status.text)
      (joins n.slot.word n.version.word n.value.word n.status.word (drop r.next bytes))
    where
      joins : (a b c d rest : List ℕ)
          → delivery_word ++ (32 ∷ (a ++ (32 ∷ (b ++ (32 ∷ (c ++ (32 ∷ (d ++ (10 ∷ rest)))))))))
          ≡ text a b c d ++ (10 ∷ rest)
      joins a b c d rest =
          rw (
            append_assoc a (32 ∷ (b ++ (32 ∷ (c ++ (32 ∷ d))))) (10 ∷ rest),
            append_assoc b (32 ∷ (c ++ (32 ∷ d))) (10 ∷ rest),
            append_assoc c (32 ∷ d) (10 ∷ rest),
          )

  -- its length
  long : length found + 1 ≡ r.next - at
  long =
      rw (length-append, length-append, length-append, length-append)
      (omega (arith, n.slot.end, n.version.end, n.value.end, n.status.end))

  numbers : are_numbers 4 (n.slot.word ∷ n.version.word ∷ n.value.word ∷ n.status.word ∷ []) ≡ true
  unfolding are_numbers
  numbers = rw (field_number n.slot, field_number n.version, field_number n.value, field_number n.status)

  item : item_of found ≡ call (delivery r.slot r.version r.value r.status)
  item =
      text_item _ _ _ _ n.slot.digits n.version.digits n.value.digits n.status.digits
      (omega (arith, long, n.slot.near, n.version.near, n.value.near, n.status.near)) numbers
      ∙ rw (sym n.slot.valued, sym n.version.valued, sym n.value.valued, sym n.status.valued)

  first_line : lines (found ++ (10 ∷ drop r.next bytes)) ≡ found ∷ lines (drop r.next bytes)
  first_line =
      lines_first found (drop r.next bytes)
      (text_lacks _ _ _ _ n.slot.digits n.version.digits n.value.digits n.status.digits 10 (omega arith))

  pub delivery_of_lem : DeliveryAt bytes at r
  unfolding items
  delivery_of_lem = record {
    further = omega (arith, n.slot.end, n.version.end, n.value.end, n.status.end);
    inside = n.status.inside;
    first = rw (begins, first_line, item);
  }

-- a delivery is a line with a filling call
pub delivery_found : (bytes : List ℕ) (at : ℕ) (r : Delivery) → DeliveryAt bytes at r
    → FoundAt bytes at (Fill (coded.Delivery r.slot r.version r.value r.status)) r.next
unfolding item_in
delivery_found bytes at r item = record { limits = limits_of []; item = item }
