-- Equal contents are written alike.
use mathlib.Core.Bool.{Bool, cond, not, ◌&&◌, ◌||◌}
use mathlib.Core.List.{List, [], ◌∷◌, ◌++◌}
use mathlib.Core.Logic.{⊎_elim}
use mathlib.Core.Path.{◌≡◌, refl, ap, ap₂, ◌∙◌}
use Prim.Native.Nat.{ℕ, zero, suc, ◌+◌, ◌*◌, ◌/◌, ◌≤◌, ◌<◌}
use native.Mathlib.Nat.{eq-or-lt_of_le}
use native.Mathlib.Omega.{arith}
use borrow.Author.Tests.{eqb-false}
use lib.Dec.{eqb}
use Rattle.base.specs.Lists.{all}
use Rattle.base.proofs.Logic.{either}
use Rattle.market.specs.declared.marks.Mark.{Mark}
use Rattle.market.specs.Fields.{Texts, field, fields, joined, kwh, date_field, marked, alike, one_mark, ends_run, start_of, day_mark}
use Rattle.market.specs.Records.{record100, record200, record300, record900, runs, day_records, days_of}
use Rattle.market.specs.Export.{Content, body_of, export_of}
use Rattle.market.specs.Claim.{SameContent}
use Rattle.market.proofs.Joining.{day_within}
use Rattle.market.proofs.Splits.{same_mark}

joined_same : (f g : ℕ → List ℕ) (a k : ℕ) → ((i : ℕ) → a ≤ i → i < a + k → f i ≡ g i) → joined f a k ≡ joined g a k
unfolding joined
joined_same f g a zero h = refl
joined_same f g a (suc k) h =
    ap₂ (λ (x y : List ℕ). x ++ y) (joined_same f g a k (λ i l m. h i l (omega arith))) (h (a + k) (omega arith) (omega arith))

all_same : (p q : ℕ → Bool) (a k : ℕ) → ((i : ℕ) → a ≤ i → i < a + k → p i ≡ q i) → all p a k ≡ all q a k
unfolding all
all_same p q a zero h = refl
all_same p q a (suc k) h =
    ap₂ (λ (x y : Bool). x && y) (h a (omega arith) (omega arith)) (all_same p q (suc a) k (λ i l m. h i (omega arith) (omega arith)))

-- a day whose slots have equal marks
module _ (mark other : ℕ → Mark) (a n : ℕ) (h : (i : ℕ) → a ≤ i → i < a + n → mark i ≡ other i) where
  one_alike : 1 ≤ n → one_mark mark a n ≡ one_mark other a n
  unfolding one_mark
  one_alike some =
      all_same (λ j. alike (mark a) (mark (a + j))) (λ j. alike (other a) (other (a + j))) 0 n
      (λ j l m. ap₂ alike (h a (omega arith) (omega arith)) (h (a + j) (omega arith) (omega arith)))

  ends_alike : (j : ℕ) → j < n → ends_run mark a n j ≡ ends_run other a n j
  unfolding ends_run
  ends_alike j l =
      ⊎_elim (λ e. rw e)
      (λ e.
      let near : j + 1 ≤ n = omega arith in
      let inside : j + 1 < n = ⊎_elim (λ z. absurd (eqb-false (j + 1) n e z)) (λ m. m) (eq-or-lt_of_le near) in
      ap₂ (λ (p q : Mark). eqb (j + 1) n || not (alike p q)) (h (a + j) (omega arith) (omega arith))
      (h (a + (j + 1)) (omega arith) (omega arith)))
      (either (eqb (j + 1) n))

  start_alike : (j : ℕ) → j ≤ n → start_of mark a n j ≡ start_of other a n j
  unfolding start_of
  start_alike zero l = refl
  start_alike (suc j) l = ap₂ (λ (e : Bool) (s : ℕ). cond e (suc j) s) (ends_alike j (omega arith)) (start_alike j (omega arith))

  runs_alike : (reason : List ℕ) → runs reason mark a n ≡ runs reason other a n
  unfolding runs
  runs_alike reason =
      joined_same _ _ 0 n
      (λ j l m.
      let here : j < n = omega arith in
      let near : j ≤ n = omega arith in
      rw (ends_alike j here, start_alike j near, h (a + j) (omega arith) (omega arith)))

  day_same : (reason created : List ℕ) (day : ℕ) (v w : ℕ → ℕ) → 1 ≤ n → ((i : ℕ) → a ≤ i → i < a + n → v i ≡ w i)
      → day_records reason created day v mark a n ≡ day_records reason created day w other a n
  unfolding day_records record300
  day_same reason created day v w some g =
      let values : joined (λ i. field (kwh (v i))) a n ≡ joined (λ i. field (kwh (w i))) a n =
      joined_same (λ i. field (kwh (v i))) (λ i. field (kwh (w i))) a n (λ i l m. ap (λ (x : ℕ). field (kwh x)) (g i l m)) in
      let ones = one_alike some in
      let marks : day_mark (one_mark mark a n) (mark a) ≡ day_mark (one_mark other a n) (other a) =
      ap₂ day_mark ones (h a (omega arith) (omega arith)) in
      ap₂ (λ (x y : List ℕ). x ++ y)
      (ap₂ (λ (x : List ℕ) (m : Mark). (51 ∷ 48 ∷ 48 ∷ []) ++
      (field (date_field day) ++ (x ++ (marked m reason ++ fields (created ∷ [] ∷ []))))) values marks)
      (ap₂ (λ (o : Bool) (x : List ℕ). cond o [] x) ones (runs_alike reason))

-- an export from its parts
abbrev export_from : Texts → ℕ → ℕ → ℕ → (ℕ → ℕ) → (ℕ → Mark) → List ℕ
export_from t first days interval v mark = export_of t (record { first = first; days = days; interval = interval; value = v; mark = mark })

days_same : (t : Texts) (first days interval : ℕ) (v w : ℕ → ℕ) (mark other : ℕ → Mark) → 1 ≤ 1440 / interval
    → ((i : ℕ) → i < 1440 / interval * days → v i ≡ w i) → ((i : ℕ) → i < 1440 / interval * days → mark i ≡ other i)
    → export_from t first days interval v mark ≡ export_from t first days interval w other
unfolding export_of body_of days_of
days_same t first days interval v w mark other some g h =
    let n : ℕ = 1440 / interval in
    let parts : joined (λ d. day_records t.reason t.created (first + d) v mark (d * n) n) 0 days
    ≡ joined (λ d. day_records t.reason t.created (first + d) w other (d * n) n) 0 days =
    joined_same _ _ 0 days
    (λ d l m.
    let here : d < days = omega arith in
    day_same mark other (d * n) n (λ i p q. h i (omega (arith, day_within n d days here))) t.reason t.created (first + d) v w some
    (λ i p q. g i (omega (arith, day_within n d days here)))) in
    ap (λ (x : List ℕ).
    (record100 t.created t.from t.to
    ++ (record200 t.identifier t.configuration t.register t.suffix t.stream t.serial interval t.next_read ++ x))
    ++ record900)
    parts

pub content_same : (t : Texts) (c d : Content) → 1 ≤ 1440 / d.interval → SameContent c d → export_of t c ≡ export_of t d
content_same t c d some s =
    let size : 1440 / c.interval * c.days ≡ 1440 / d.interval * d.days = ap₂ (λ (x y : ℕ). 1440 / x * y) s.interval s.days in
    ap (λ (x : ℕ). export_from t x c.days c.interval c.value c.mark) s.first
    ∙ ap (λ (x : ℕ). export_from t d.first x c.interval c.value c.mark) s.days
    ∙ ap (λ (x : ℕ). export_from t d.first d.days x c.value c.mark) s.interval
    ∙ days_same t d.first d.days d.interval c.value d.value c.mark d.mark some
    (λ i l. s.values i (omega (arith, size)))
    (λ i l.
    let here : i < 1440 / c.interval * c.days = omega (arith, size) in
    same_mark (c.mark i) (d.mark i) (s.qualities i here) (s.methods i here))
