-- Days that are told from their records.
use mathlib.Core.Bool.{true, false}
use mathlib.Core.List.{List, ◌++◌, append_assoc, head-eq_of_cons-eq}
use mathlib.Core.Logic.{⊎_elim}
use mathlib.Core.Path.{◌≡◌, refl, sym, ap, subst, ◌∙◌}
use Prim.Native.Nat.{ℕ, zero, suc, ◌+◌, ◌-◌, ◌*◌, ◌^◌, ◌≤◌, ◌<◌}
use native.Mathlib.Nat.{eq-or-lt_of_le}
use native.Mathlib.Omega.{arith}
use Rattle.base.proofs.Logic.{either}
use Rattle.base.proofs.Sums.{all_at}
use Rattle.market.specs.declared.marks.Mark.{Mark}
use Rattle.market.specs.Fields.{joined, varies, alike, one_mark}
use Rattle.market.specs.Records.{record300, record900, runs, day_records}
use Rattle.market.proofs.Joining.{day_alike, day_varies, day_within, start_none}
use Rattle.market.proofs.Splits.{Plainly, alike_same, joined_front, Told300, split_300}
use Rattle.market.proofs.RunSplits.{AlikeFrom, runs_split}

-- what is written of slots: values of 32 bits, marks written plainly, none of them V
pub record Slots (v : ℕ → ℕ) (mark : ℕ → Mark) (count : ℕ) : Type 0 where
  pub value : (i : ℕ) → v i < 2 ^ 32
  pub plain : (i : ℕ) → i < count → Plainly (mark i)
  pub letter : (i : ℕ) → i < count → (mark i).letter ≡ 86 → ⊥

-- what is told of two days of n slots from slot a
pub record ToldDay (day day' : ℕ) (v w : ℕ → ℕ) (mark other : ℕ → Mark) (a n : ℕ) (r r' : List ℕ) : Type 0 where
  pub day_same : day ≡ day'
  pub values : (i : ℕ) → a ≤ i → i < a + n → v i ≡ w i
  pub marks : (i : ℕ) → a ≤ i → i < a + n → mark i ≡ other i
  pub rest : r ≡ r'

plain_varies : Plainly varies
plain_varies = omega arith

-- the slots of a day whose slots are alike
one_same : (mark : ℕ → Mark) (a n : ℕ) → one_mark mark a n ≡ true → (j : ℕ) → j < n → mark a ≡ mark (a + j)
unfolding one_mark
one_same mark a n e j l = alike_same (mark a) (mark (a + j)) (all_at (λ i. alike (mark a) (mark (a + i))) n e j l)

module _
    (reason created : List ℕ) (day day' : ℕ) (l : day < 36525) (l' : day' < 36525) (v w : ℕ → ℕ) (mark other : ℕ → Mark)
    (a n count count' : ℕ)
    (few : n ≤ 288) (some : 1 ≤ n) (within : a + n ≤ count) (within' : a + n ≤ count') (p : Slots v mark count) (q : Slots w other count')
    (r r' : List ℕ)
    (e : day_records reason created day v mark a n ++ r ≡ day_records reason created day' w other a n ++ r')
  where
    told_300 : (m m' : Mark) → Plainly m → Plainly m' → (s s' : List ℕ)
        → record300 reason created day v a n m ++ s ≡ record300 reason created day' w a n m' ++ s' → Told300 day day' v w a n m m' s s'
    told_300 m m' o o' s s' x = split_300 reason created day day' l l' v w a n p.value q.value m m' o o' s s' x

    first_plain : Plainly (mark a)
    first_plain = p.plain a (omega arith)

    other_plain : Plainly (other a)
    other_plain = q.plain a (omega arith)

    -- the records of a day whose slots are alike, and of one whose slots are not
    one_left : one_mark mark a n ≡ true → record300 reason created day v a n (mark a) ++ r ≡ day_records reason created day v mark a n ++ r
    one_left t = ap (λ (x : List ℕ). x ++ r) (day_alike mark a n reason created day v true (mark a) (sym t) refl refl)

    one_right : one_mark other a n ≡ true
        → record300 reason created day' w a n (other a) ++ r' ≡ day_records reason created day' w other a n ++ r'
    one_right t = ap (λ (x : List ℕ). x ++ r') (day_alike other a n reason created day' w true (other a) (sym t) refl refl)

    more_left : one_mark mark a n ≡ false
        → record300 reason created day v a n varies ++ (runs reason mark a n ++ r) ≡ day_records reason created day v mark a n ++ r
    more_left t =
        sym (append_assoc (record300 reason created day v a n varies) (runs reason mark a n) r)
        ∙ ap (λ (x : List ℕ). x ++ r) (day_varies mark a n reason created day v false varies (sym t) refl refl)

    more_right : one_mark other a n ≡ false
        → record300 reason created day' w a n varies ++ (runs reason other a n ++ r') ≡ day_records reason created day' w other a n ++ r'
    more_right t =
        sym (append_assoc (record300 reason created day' w a n varies) (runs reason other a n) r')
        ∙ ap (λ (x : List ℕ). x ++ r') (day_varies other a n reason created day' w false varies (sym t) refl refl)

    both_one : one_mark mark a n ≡ true → one_mark other a n ≡ true → ToldDay day day' v w mark other a n r r'
    both_one t u =
        let told = told_300 (mark a) (other a) first_plain other_plain r r' (one_left t ∙ e ∙ sym (one_right u)) in
        record {
          day_same = told.day_same;
          values = told.values;
          marks = λ i j k.
              let place : a + (i - a) ≡ i = omega arith in
              let inside : i - a < n = omega arith in
              subst (λ (x : ℕ). mark x ≡ other x) place
              (sym (one_same mark a n t (i - a) inside) ∙ told.mark_same ∙ one_same other a n u (i - a) inside);
          rest = told.rest;
        }

    both_vary : one_mark mark a n ≡ false → one_mark other a n ≡ false → ToldDay day day' v w mark other a n r r'
    unfolding runs
    both_vary t u =
        let told = told_300 varies varies plain_varies plain_varies (runs reason mark a n ++ r) (runs reason other a n ++ r')
        (more_left t ∙ e ∙ sym (more_right u)) in
        let tail : AlikeFrom mark other a n r r' 0 =
        runs_split reason mark other a n few (λ j k. p.plain (a + j) (omega arith)) (λ j k. q.plain (a + j) (omega arith)) n 0
        (omega arith)
        (sym (start_none mark a n) ∙ start_none other a n) r r' told.rest in
        record {
          day_same = told.day_same;
          values = told.values;
          marks = λ i j k.
              let place : a + (i - a) ≡ i = omega arith in
              subst (λ (x : ℕ). mark x ≡ other x) place (tail.0 (i - a) (omega arith) (omega arith));
          rest = tail.1;
        }

    pub day_split : ToldDay day day' v w mark other a n r r'
    day_split =
        ⊎_elim
        (λ t.
        ⊎_elim (λ u. both_one t u)
        (λ u.
        absurd (p.letter a (omega arith)
        (ap (λ (m : Mark). m.letter)
        (told_300 (mark a) varies first_plain plain_varies r (runs reason other a n ++ r')
        (one_left t ∙ e ∙ sym (more_right u))).mark_same)))
        (either (one_mark other a n)))
        (λ t.
        ⊎_elim
        (λ u.
        absurd (q.letter a (omega arith)
        (ap (λ (m : Mark). m.letter)
        (sym (told_300 varies (other a) plain_varies other_plain (runs reason mark a n ++ r) r'
        (more_left t ∙ e ∙ sym (one_right u))).mark_same))))
        (λ u. both_vary t u)
        (either (one_mark other a n)))
        (either (one_mark mark a n))

-- ---- All days

starts_300 : (reason created : List ℕ) (day : ℕ) (v : ℕ → ℕ) (mark : ℕ → Mark) (a n : ℕ) (r : List ℕ)
    → record900 ≡ day_records reason created day v mark a n ++ r → ⊥
unfolding day_records record300
starts_300 reason created day v mark a n r e = let h : ◌≡◌ {A = ℕ} 57 51 = head-eq_of_cons-eq e in omega arith

-- the records of day d
abbrev records_at : List ℕ → List ℕ → ℕ → (ℕ → ℕ) → (ℕ → Mark) → ℕ → ℕ → List ℕ
records_at reason created first v mark n d = day_records reason created (first + d) v mark (d * n) n

-- day d is told
abbrev pub Told : ℕ → ℕ → (ℕ → ℕ) → (ℕ → ℕ) → (ℕ → Mark) → (ℕ → Mark) → ℕ → ℕ → Type 0
Told first first' v w mark other n d = (first + d ≡ first' + d) × ((i : ℕ) → d * n ≤ i → i < d * n + n → (v i ≡ w i) × (mark i ≡ other i))

module _ (f : ℕ → List ℕ) where
  days_front : (a k : ℕ) (r : List ℕ) → joined f a (suc k) ++ r ≡ f a ++ (joined f (suc a) k ++ r)
  days_front a k r = ap (λ (x : List ℕ). x ++ r) (joined_front f a k) ∙ append_assoc (f a) (joined f (suc a) k) r

  days_none : (a : ℕ) (r : List ℕ) → joined f a 0 ++ r ≡ r
  unfolding joined
  days_none a r = refl

module _
    (reason created : List ℕ) (first first' : ℕ) (v w : ℕ → ℕ) (mark other : ℕ → Mark) (n D D' : ℕ) (few : n ≤ 288) (some : 1 ≤ n)
    (p : Slots v mark (n * D)) (q : Slots w other (n * D')) (dates : first + D ≤ 36525) (dates' : first' + D' ≤ 36525)
  where
    pub days_split : (k k' a : ℕ) → a + k ≡ D → a + k' ≡ D'
        → joined (records_at reason created first v mark n) a k ++ record900
        ≡ joined (records_at reason created first' w other n) a k' ++ record900
        → (D ≡ D') × ((d : ℕ) → a ≤ d → d < D → Told first first' v w mark other n d)
    days_split zero zero a e e' x = (omega arith, λ d l m. absurd (omega arith))
    days_split zero (suc k') a e e' x =
        absurd (starts_300 reason created (first' + a) w other (a * n) n
        (joined (records_at reason created first' w other n) (suc a) k' ++ record900)
        (sym (days_none (records_at reason created first v mark n) a record900) ∙ x
        ∙ days_front (records_at reason created first' w other n) a k' record900))
    days_split (suc k) zero a e e' x =
        absurd (starts_300 reason created (first + a) v mark (a * n) n
        (joined (records_at reason created first v mark n) (suc a) k ++ record900)
        (sym (days_none (records_at reason created first' w other n) a record900) ∙ sym x
        ∙ days_front (records_at reason created first v mark n) a k record900))
    days_split (suc k) (suc k') a e e' x =
        let here : a < D = omega arith in
        let here' : a < D' = omega arith in
        let told =
        day_split reason created (first + a) (first' + a) (omega arith) (omega arith) v w mark other (a * n) n (n * D) (n * D') few some
        (day_within n a D here) (day_within n a D' here') p q
        (joined (records_at reason created first v mark n) (suc a) k ++ record900)
        (joined (records_at reason created first' w other n) (suc a) k' ++ record900)
        (sym (days_front (records_at reason created first v mark n) a k record900) ∙ x
        ∙ days_front (records_at reason created first' w other n) a k' record900) in
        let next = days_split k k' (suc a) (omega arith) (omega arith) told.rest in (
          next.0,
          λ d l m.
              ⊎_elim (λ z. subst (Told first first' v w mark other n) z (told.day_same, λ i j h. (told.values i j h, told.marks i j h)))
              (λ h. next.1 d h m)
              (eq-or-lt_of_le l),
        )
