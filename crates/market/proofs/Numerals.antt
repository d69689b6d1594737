-- Numbers and dates that are told from their digits.
use mathlib.Core.Bool.{Bool, true, false, ◌&&◌}
use mathlib.Core.List.{List, [], ◌∷◌, ◌++◌, append_assoc, head-eq_of_cons-eq, tail-eq_of_cons-eq}
use mathlib.Core.Logic.{⊎_elim}
use mathlib.Core.Path.{◌≡◌, refl, sym, ap, ap₂, ◌∙◌}
use Prim.Native.Nat.{ℕ, zero, suc, ◌+◌, ◌-◌, ◌*◌, ◌/◌, ◌%◌, ◌^◌, ◌≤◌, ◌<◌}
use native.Mathlib.Omega.{arith}
use borrow.Author.Tests.{leb-true, ltb-true}
use lib.Dec.{leb, ltb}
use lib.ListN.{length, get_or, length-append}
use Rattle.base.proofs.Logic.{either, and_parts}
use Rattle.calendar.specs.Calendar.{leap, month_lengths, month_length, day_number, date_of}
use Rattle.calendar.proofs.Bounds.{bounded}
use Rattle.calendar.proofs.Dates.{number_of_date}
use Rattle.line.specs.Line.{digits, places, decimal}
use Rattle.line.proofs.Digits.{length_digits}
use Rattle.market.specs.Fields.{kwh, date_field}

-- ---- The number that digits say

abbrev said : ℕ → List ℕ → ℕ
said n [] = n
said n (b ∷ s) = said (n * 10 + (b - 48)) s

said_append : (n : ℕ) (s t : List ℕ) → said n (s ++ t) ≡ said (said n s) t
said_append n [] t = refl
said_append n (b ∷ s) t = said_append (n * 10 + (b - 48)) s t

abbrev ten : ℕ → ℕ
ten zero = 1
ten (suc k) = 10 * ten k

said_more : (s : List ℕ) (n : ℕ) → said 0 s ≡ n / 10 → said 0 (s ++ ((48 + n % 10) ∷ [])) ≡ n
said_more s n e = said_append 0 s ((48 + n % 10) ∷ []) ∙ ap (λ (x : ℕ). x * 10 + (48 + n % 10 - 48)) e ∙ whole
  where
    whole : n / 10 * 10 + (48 + n % 10 - 48) ≡ n
    whole = omega arith

said_digits : (k n : ℕ) → n < ten k → said 0 (digits k n) ≡ n
unfolding digits
said_digits zero n l = omega arith
said_digits (suc k) n l =
    let tenth : n / 10 < ten k = omega arith in
    said_more (digits k (n / 10)) n (said_digits k (n / 10) tenth)

said_decimal : (k n : ℕ) → n < ten (suc k) → said 0 (digits (places k n) n) ≡ n
unfolding digits places
said_decimal zero n l =
    let tenth : 0 ≡ n / 10 = omega arith in
    said_more [] n tenth
said_decimal (suc k) n l =
    ⊎_elim
    (λ e.
    let tenth : 0 ≡ n / 10 = omega (arith, ltb-true n 10 e) in
    rw e (said_more [] n tenth))
    (λ e.
    let tenth : n / 10 < ten (suc k) = omega arith in
    rw e (said_more (digits (places k (n / 10)) (n / 10)) n (said_decimal k (n / 10) tenth)))
    (either (ltb n 10))

-- ---- Digits up to another byte

abbrev AllDigits : List ℕ → Type 0
AllDigits [] = ◌≡◌ {A = ℕ} 0 0
AllDigits (b ∷ s) = (48 ≤ b) × AllDigits s

all_append : (s t : List ℕ) → AllDigits s → AllDigits t → AllDigits (s ++ t)
all_append [] t p q = q
all_append (b ∷ s) t p q = (p.0, all_append s t p.1 q)

all_digits : (k n : ℕ) → AllDigits (digits k n)
unfolding digits
all_digits zero n = refl
all_digits (suc k) n = all_append (digits k (n / 10)) ((48 + n % 10) ∷ []) (all_digits k (n / 10)) (omega arith, refl)

stop_split : (s t : List ℕ) → AllDigits s → AllDigits t → (x y : ℕ) → x < 48 → y < 48 → (r r' : List ℕ) → s ++ (x ∷ r) ≡ t ++ (y ∷ r')
    → (s ≡ t) × (r ≡ r')
stop_split [] [] p q x y l m r r' e = (refl, tail-eq_of_cons-eq e)
stop_split [] (c ∷ t) p q x y l m r r' e = let h : x ≡ c = head-eq_of_cons-eq e in absurd (omega (arith, q.0))
stop_split (b ∷ s) [] p q x y l m r r' e = let h : b ≡ y = head-eq_of_cons-eq e in absurd (omega (arith, p.0))
stop_split (b ∷ s) (c ∷ t) p q x y l m r r' e =
    let rest = stop_split s t p.1 q.1 x y l m r r' (tail-eq_of_cons-eq e) in
    (ap₂ (λ (h : ℕ) (z : List ℕ). h ∷ z) (head-eq_of_cons-eq e) rest.0, rest.1)

-- a number, and what follows it
pub decimal_split : (a b : ℕ) → a < 2 ^ 32 → b < 2 ^ 32 → (x y : ℕ) → x < 48 → y < 48 → (r r' : List ℕ)
    → decimal a ++ (x ∷ r) ≡ decimal b ++ (y ∷ r')
    → (a ≡ b) × (r ≡ r')
unfolding decimal
decimal_split a b l m x y p q r r' e =
    let parts = stop_split (decimal a) (decimal b) (all_digits (places 19 a) a) (all_digits (places 19 b) b) x y p q r r' e in
    (sym (said_decimal 19 a (omega arith)) ∙ ap (said 0) parts.0 ∙ said_decimal 19 b (omega arith), parts.1)

-- ---- So many digits

even_split : (s t : List ℕ) → length s ≡ length t → (r r' : List ℕ) → s ++ r ≡ t ++ r' → (s ≡ t) × (r ≡ r')
even_split [] [] l r r' e = (refl, e)
even_split [] (c ∷ t) l r r' e = absurd (omega arith)
even_split (b ∷ s) [] l r r' e = absurd (omega arith)
even_split (b ∷ s) (c ∷ t) l r r' e =
    let rest = even_split s t (omega arith) r r' (tail-eq_of_cons-eq e) in
    (ap₂ (λ (h : ℕ) (z : List ℕ). h ∷ z) (head-eq_of_cons-eq e) rest.0, rest.1)

width_split : (k a b : ℕ) (r r' : List ℕ) → digits k a ++ r ≡ digits k b ++ r' → (digits k a ≡ digits k b) × (r ≡ r')
width_split k a b r r' e = even_split (digits k a) (digits k b) (length_digits k a ∙ sym (length_digits k b)) r r' e

said_same : (k a b : ℕ) → a < ten k → b < ten k → digits k a ≡ digits k b → a ≡ b
said_same k a b l m e = sym (said_digits k a l) ∙ ap (said 0) e ∙ said_digits k b m

-- a method code
pub code_split : (a b : ℕ) → a ≤ 99 → b ≤ 99 → (r r' : List ℕ) → digits 2 a ++ r ≡ digits 2 b ++ r' → (a ≡ b) × (r ≡ r')
code_split a b l m r r' e =
    let parts = width_split 2 a b r r' e in
    (said_same 2 a b (omega arith) (omega arith) parts.0, parts.1)

-- ---- A value

tenfold : (x y : ℕ) → x / 10 ≡ y / 10 → 48 + x % 10 ≡ 48 + y % 10 → x ≡ y
tenfold x y q e = omega arith

thousand : (v : ℕ) → v / 10 / 10 / 10 ≡ v / 1000
thousand v = omega arith

thousandths : (v w : ℕ) → v / 1000 ≡ w / 1000 → digits 3 v ≡ digits 3 w → v ≡ w
unfolding digits
thousandths v w q e =
    let hundreds = tenfold (v / 10 / 10) (w / 10 / 10) (thousand v ∙ q ∙ sym (thousand w)) (head-eq_of_cons-eq e) in
    let tens = tenfold (v / 10) (w / 10) hundreds (head-eq_of_cons-eq (tail-eq_of_cons-eq e)) in
    tenfold v w tens (head-eq_of_cons-eq (tail-eq_of_cons-eq (tail-eq_of_cons-eq e)))

pub kwh_split : (v w : ℕ) → v < 2 ^ 32 → w < 2 ^ 32 → (r r' : List ℕ) → kwh v ++ r ≡ kwh w ++ r' → (v ≡ w) × (r ≡ r')
unfolding kwh
kwh_split v w l m r r' e =
    let whole : v / 1000 < 2 ^ 32 = omega arith in
    let whole' : w / 1000 < 2 ^ 32 = omega arith in
    let flat = sym (append_assoc (decimal (v / 1000)) (46 ∷ digits 3 v) r) ∙ e ∙ append_assoc (decimal (w / 1000)) (46 ∷ digits 3 w) r' in
    let front = decimal_split (v / 1000) (w / 1000) whole whole' 46 46 (omega arith) (omega arith) (digits 3 v ++ r) (digits 3 w ++ r')
    flat in
    let back = width_split 3 v w r r' front.1 in
    (thousandths v w front.0 back.0, back.1)

-- ---- A date

abbrev at_most : ℕ → List ℕ → Bool
at_most n [] = true
at_most n (x ∷ xs) = leb x n && at_most n xs

get_d_at_most : (n : ℕ) (xs : List ℕ) → at_most n xs ≡ true → (k : ℕ) → get_or xs k 0 ≤ n
get_d_at_most n [] e k = omega arith
get_d_at_most n (x ∷ xs) e zero = leb-true x n (and_parts (leb x n) (at_most n xs) e).0
get_d_at_most n (x ∷ xs) e (suc k) = get_d_at_most n xs (and_parts (leb x n) (at_most n xs) e).1 k

month_at_most : (y m : ℕ) → month_length y m ≤ 31
unfolding month_length month_lengths
month_at_most y m = get_d_at_most 31 (month_lengths (leap y)) (lengths (leap y)) (m - 1)
  where
    lengths : (b : Bool) → at_most 31 (month_lengths b) ≡ true
    lengths true = refl
    lengths false = refl

-- a day's year, month and day are written whole
record Written (n : ℕ) : Type 0 where
  year : (date_of n).year < 10000
  month : (date_of n).month < 100
  day : (date_of n).day < 100
  number : day_number (date_of n).year (date_of n).month (date_of n).day ≡ n

written : (n : ℕ) → n < 36525 → Written n
written n l =
    let found = number_of_date n l in
    let b = bounded (date_of n).year (date_of n).month (date_of n).day found.0 in
    record {
      year = omega (arith, b.year_high);
      month = omega (arith, b.month_high);
      day = omega (arith, b.day_high, month_at_most (date_of n).year (date_of n).month);
      number = found.1;
    }

length_date : (n : ℕ) → length (date_field n) ≡ 8
unfolding date_field
length_date n =
    let d = date_of n in
    length-append (digits 4 d.year) (digits 2 d.month ++ digits 2 d.day)
    ∙ omega (
      arith,
      length-append (digits 2 d.month) (digits 2 d.day),
      length_digits 4 d.year,
      length_digits 2 d.month,
      length_digits 2 d.day,
    )

pub date_split : (m n : ℕ) → m < 36525 → n < 36525 → (r r' : List ℕ) → date_field m ++ r ≡ date_field n ++ r' → (m ≡ n) × (r ≡ r')
unfolding date_field
date_split m n l k r r' e =
    let parts = even_split (date_field m) (date_field n) (length_date m ∙ sym (length_date n)) r r' e in
    let d = date_of m in
    let f = date_of n in
    let years = width_split 4 d.year f.year (digits 2 d.month ++ digits 2 d.day) (digits 2 f.month ++ digits 2 f.day)
    parts.0 in
    let months = width_split 2 d.month f.month (digits 2 d.day) (digits 2 f.day) years.1 in
    let p = written m l in
    let q = written n k in
    let y : d.year ≡ f.year = said_same 4 d.year f.year (omega (arith, p.year)) (omega (arith, q.year)) years.0 in
    let o : d.month ≡ f.month = said_same 2 d.month f.month (omega (arith, p.month)) (omega (arith, q.month)) months.0 in
    let a : d.day ≡ f.day = said_same 2 d.day f.day (omega (arith, p.day)) (omega (arith, q.day)) months.1 in
    (sym p.number ∙ rw (y, o, a) q.number, parts.1)
