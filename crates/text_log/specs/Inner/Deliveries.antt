-- A delivery's line found in one pass.
use Rattle.std.specs.Prelude.{true, List, [], ◌∷◌, ◌++◌, ◌≡◌, ℕ, ◌+◌, ◌-◌, ◌≤◌, length, take, drop}
use Rattle.book.specs.Arguments.Call.{delivery}
use Rattle.text_log.specs.declared.deliveries.Delivery.{Delivery}
use Rattle.text_log.specs.Numbers.{are_digits, value_of}
use Rattle.text_log.specs.Line.{delivery_word}
use Rattle.text_log.specs.Log.Item.{call}
use Rattle.text_log.specs.Inner.Lines.{ItemAt}

-- the keyword with its space
abbrev pub keyword : List ℕ
keyword = delivery_word ++ (32 ∷ [])

-- nine digits at most stand from place `from` up to place `end`, with this value
pub record DigitsAt (bytes : List ℕ) (from value end : ℕ) : Type 0 where
  pub begun : from ≤ end
  pub near : end ≤ from + 9
  pub inside : end ≤ length bytes
  pub digits : are_digits (take (end - from) (drop from bytes)) ≡ true
  pub valued : value ≡ value_of (take (end - from) (drop from bytes))
  pub low : value ≤ 999_999_999

-- a word of one to nine digits with this value, then the separator, then the bytes from place `next` on
pub record FieldAt (bytes : List ℕ) (from separator value next : ℕ) : Type 0 where
  pub word : List ℕ
  pub some : length word ≡ 0 → ⊥
  pub digits : are_digits word ≡ true
  pub valued : value ≡ value_of word
  pub low : value ≤ 999_999_999
  pub text : drop from bytes ≡ word ++ (separator ∷ drop next bytes)
  pub end : next ≡ from + (length word + 1)
  pub near : next ≤ from + 10
  pub inside : next ≤ length bytes

-- four such words, with spaces between them and a separator after the last
pub record NumbersAt (bytes : List ℕ) (from separator : ℕ) (r : Delivery) : Type 0 where
  pub versions : ℕ
  pub values : ℕ
  pub statuses : ℕ
  pub slot : FieldAt bytes from 32 r.slot versions
  pub version : FieldAt bytes versions 32 r.version values
  pub value : FieldAt bytes values 32 r.value statuses
  pub status : FieldAt bytes statuses separator r.status r.next

-- the keyword, and four such words behind it
pub record KeyedAt (bytes : List ℕ) (at separator : ℕ) (r : Delivery) : Type 0 where
  pub begins : take 9 (drop at bytes) ≡ keyword
  pub numbers : NumbersAt bytes (at + 9) separator r

-- the line that begins at place `at` is this delivery
abbrev pub DeliveryAt : List ℕ → ℕ → Delivery → Type 0
DeliveryAt bytes at r = ItemAt bytes at (call (delivery r.slot r.version r.value r.status)) r.next

-- the same of a line whose numbers are not told
pub record DeliveryTo (bytes : List ℕ) (at next : ℕ) : Type 0 where
  pub delivery : Delivery
  pub line : DeliveryAt bytes at delivery
  pub ends : delivery.next ≡ next
