-- What the searches for a boundary with a reading find.
use mathlib.Core.Bool.{Bool, true, false, cond}
use mathlib.Core.List.{List}
use mathlib.Core.Logic.{⊎_elim}
use mathlib.Core.Option.{Option, none, some, none-ne-some, some-ne-none, some-injective}
use mathlib.Core.Path.{◌≡◌, refl, sym, ap}
use Prim.Native.Nat.{ℕ, zero, suc, ◌+◌, ◌≤◌, ◌<◌}
use native.Mathlib.Nat.{eq-or-lt_of_le}
use native.Mathlib.Omega.{arith}
use Rattle.rules.specs.Spans.{is_read, last_read, next_read}

-- f is the last boundary up to d that is read
pub record Last (r : List ℕ) (d f : ℕ) : Type 0 where
  pub low : f ≤ d
  pub here : is_read r f ≡ true
  pub after : (x : ℕ) → f < x → x ≤ d → is_read r x ≡ false

-- l is the first of the k boundaries from d that is read
pub record Next (r : List ℕ) (d k l : ℕ) : Type 0 where
  pub low : d ≤ l
  pub high : l < d + k
  pub here : is_read r l ≡ true
  pub before : (x : ℕ) → d ≤ x → x < l → is_read r x ≡ false

module _ (r : List ℕ) where
  last_here : (d f : ℕ) → is_read r d ≡ true → ◌≡◌ {A = Option ℕ} (some d) (some f) → Last r d f
  last_here d f t e =
      let z : f ≡ d = sym (some-injective d f e) in
      rw z (record { low = omega arith; here = t; after = λ x l m. absurd (omega arith) })

  last_further : (d f : ℕ) → is_read r (suc d) ≡ false → Last r d f → Last r (suc d) f
  last_further d f t p = record {
    low = omega (arith, p.low);
    here = p.here;
    after = λ x l m. ⊎_elim (λ z. rw z t) (λ n. p.after x l (omega arith)) (eq-or-lt_of_le m);
  }

  pub last_tells : (d f : ℕ) → last_read r d ≡ some f → Last r d f
  unfolding last_read
  last_tells zero f e = go (is_read r zero) refl e
    where
      go : (t : Bool) → is_read r zero ≡ t → ◌≡◌ {A = Option ℕ} (cond t (some zero) none) (some f) → Last r zero f
      go true t e = last_here zero f t e
      go false t e = absurd (none-ne-some f e)
  last_tells (suc d) f e = go (is_read r (suc d)) refl e (last_tells d f)
    where
      go : (t : Bool) → is_read r (suc d) ≡ t → cond t (some (suc d)) (last_read r d) ≡ some f
          → (last_read r d ≡ some f → Last r d f) → Last r (suc d) f
      go true t e rec = last_here (suc d) f t e
      go false t e rec = last_further d f t (rec e)

  last_nearer : {d f : ℕ} → Last r (suc d) f → f < suc d → Last r d f
  last_nearer p l = record { low = omega arith; here = p.here; after = λ x m n. p.after x m (omega arith) }

  pub last_found : (d f : ℕ) → Last r d f → last_read r d ≡ some f
  unfolding last_read
  last_found zero f p =
      let z : f ≡ zero = omega (arith, p.low) in
      let t : is_read r zero ≡ true = rw z at p.here in
      rw (t, z)
  last_found (suc d) f p =
      ⊎_elim (λ z. let t : is_read r (suc d) ≡ true = rw z at p.here in rw t (ap {B = Option ℕ} some (sym z)))
      (λ (l : f < suc d). rw (p.after (suc d) l (omega arith)) (last_found d f (last_nearer p l)))
      (eq-or-lt_of_le p.low)

  next_here : (d k l : ℕ) → is_read r d ≡ true → ◌≡◌ {A = Option ℕ} (some d) (some l) → Next r d (suc k) l
  next_here d k l t e =
      let z : l ≡ d = sym (some-injective d l e) in
      rw z (record { low = omega arith; high = omega arith; here = t; before = λ x m n. absurd (omega arith) })

  next_further : (d k l : ℕ) → is_read r d ≡ false → Next r (suc d) k l → Next r d (suc k) l
  next_further d k l t p = record {
    low = omega (arith, p.low);
    high = omega (arith, p.high);
    here = p.here;
    before = λ x m n. ⊎_elim (λ z. rw (← z) t) (λ y. p.before x y n) (eq-or-lt_of_le m);
  }

  pub next_tells : (k d l : ℕ) → next_read r d k ≡ some l → Next r d k l
  unfolding next_read
  next_tells zero d l e = absurd (none-ne-some l e)
  next_tells (suc k) d l e = go (is_read r d) refl e (next_tells k (suc d) l)
    where
      go : (t : Bool) → is_read r d ≡ t → cond t (some d) (next_read r (suc d) k) ≡ some l
          → (next_read r (suc d) k ≡ some l → Next r (suc d) k l) → Next r d (suc k) l
      go true t e rec = next_here d k l t e
      go false t e rec = next_further d k l t (rec e)

  -- l is still the first of those after d
  pub next_nearer : {d m l : ℕ} → Next r d m l → (k : ℕ) → d < l → l < suc d + k → Next r (suc d) k l
  next_nearer p k n high = record { low = n; high = high; here = p.here; before = λ x y z. p.before x (omega arith) z }

  pub next_found : (k d l : ℕ) → Next r d k l → next_read r d k ≡ some l
  unfolding next_read
  next_found zero d l p = absurd (omega (arith, p.low, p.high))
  next_found (suc k) d l p =
      ⊎_elim (λ z. let t : is_read r d ≡ true = rw (← z) at p.here in rw t (ap {B = Option ℕ} some z))
      (λ (m : d < l). rw (p.before d (omega arith) m) (next_found k (suc d) l (next_nearer p k m (omega (arith, p.high)))))
      (eq-or-lt_of_le p.low)

  -- none of them is read
  pub next_none : (k d : ℕ) → next_read r d k ≡ none → (x : ℕ) → d ≤ x → x < d + k → is_read r x ≡ false
  unfolding next_read
  next_none zero d e x l m = absurd (omega arith)
  next_none (suc k) d e x l m = go (is_read r d) refl e (λ e n. next_none k (suc d) e x n (omega arith))
    where
      go : (t : Bool) → is_read r d ≡ t → cond t (some d) (next_read r (suc d) k) ≡ none
          → (next_read r (suc d) k ≡ none → d < x → is_read r x ≡ false) → is_read r x ≡ false
      go true t e rec = absurd (some-ne-none d e)
      go false t e rec = ⊎_elim (λ z. rw (← z) t) (rec e) (eq-or-lt_of_le l)
