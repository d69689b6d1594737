-- The stretch that a slot lies in: where the next begins, and what a pass carries from slot to slot.
use mathlib.Core.Bool.{Bool, true, false, cond}
use mathlib.Core.List.{List}
use mathlib.Core.Logic.{◌⊎◌, inl, inr, ⊎_elim}
use mathlib.Core.Option.{Option, none, some}
use mathlib.Core.Path.{◌≡◌, refl, sym, ap, ◌∙◌}
use Prim.Native.Nat.{ℕ, zero, suc, ◌+◌, ◌-◌, ◌*◌, ◌/◌, ◌%◌, ◌≤◌, ◌<◌}
use native.Mathlib.Nat.{div-add-mod', mod-lt, mul-div_cancel, zero-div, zero-mul, div-eq_of_lt-le, div-lt_iff_lt-mul, suc-mul, mul_comm}
use native.Mathlib.Nat.{mul-le-mul, eq-or-lt_of_le, le_refl}
use native.Mathlib.Numerals.{add-one}
use native.Mathlib.Omega.{arith}
use borrow.Author.Tests.{eq-eqb, ne_eqb}
use lib.Dec.{eqb}
use lib.ListN.{length, get_or}
use Rattle.base.proofs.Logic.{either}
use Rattle.std.specs.Prelude.{None, Option as Coded}
use Rattle.rules.specs.declared.Head.{Head}
use Rattle.rules.specs.declared.Span.{Span}
use Rattle.rules.specs.Opening.{Cells, slots_per_day, slot_count}
use Rattle.rules.specs.Spans.{is_read, last_read, next_read, state_of, span_to, span_from}
use Rattle.rules.specs.Inner.Stretches.{unscaled_to, span_stretch, stretch_of, stretch_on, stretch_at, carried_at, begins_at, begins_with}
use Rattle.rules.specs.Inner.Stretches.{stretch_from}
use Rattle.rules.proofs.Bounds.{Bounded, day_below}
use Rattle.rules.proofs.Boundaries.{next_tells}

module _ (r : List ℕ) where
  pub is_read_lem : (d : ℕ) → (get_or r d 0 ≡ 0 → ⊥) → is_read r d ≡ true
  unfolding is_read
  is_read_lem d e = simp (ne_eqb _ _ e)

  pub unread : (d : ℕ) → get_or r d 0 ≡ 0 → is_read r d ≡ false
  unfolding is_read
  unread d e = simp (eq-eqb _ _ e)

  -- the search for the next boundary, of n in all, one boundary on
  pub next_end : (n d : ℕ) → n ≤ d → next_read r d (n - d) ≡ none
  unfolding next_read
  next_end n d p =
      let e : n - d ≡ 0 = omega arith in
      rw e

  pub next_at : (n d : ℕ) → d < n → is_read r d ≡ true → next_read r d (n - d) ≡ some d
  unfolding next_read
  next_at n d p t =
      let e : n - d ≡ suc (n - suc d) = omega arith in
      rw (e, t)

  pub next_on : (n d : ℕ) → d < n → is_read r d ≡ false → next_read r d (n - d) ≡ next_read r (d + 1) (n - (d + 1))
  unfolding next_read
  next_on n d p t =
      let e : n - d ≡ suc (n - suc d) = omega arith in
      rw (add-one d, e, t)

-- slot j + 1 lies in the day of slot j, or is the first of the next
day_step : (n j : ℕ) → 0 < n → (suc j / n ≡ j / n) ⊎ ((suc j ≡ suc (j / n) * n) × (suc j / n ≡ suc (j / n)))
day_step n j p = ⊎_elim next on (eq-or-lt_of_le (mod-lt j p))
  where
    on : suc (j % n) < n → (suc j / n ≡ j / n) ⊎ ((suc j ≡ suc (j / n) * n) × (suc j / n ≡ suc (j / n)))
    on l = inl (div-eq_of_lt-le n (omega (arith, div-add-mod' j n)) (rw (add-one, suc-mul) (omega (arith, div-add-mod' j n))))

    next : suc (j % n) ≡ n → (suc j / n ≡ j / n) ⊎ ((suc j ≡ suc (j / n) * n) × (suc j / n ≡ suc (j / n)))
    next e =
        let q : suc j ≡ suc (j / n) * n = rw suc-mul (omega (arith, div-add-mod' j n)) in
        inr (q, rw q (mul-div_cancel (suc (j / n)) p))

module _ (h : Head) (w : Bounded h) (b : Cells) where
  abbrev n : ℕ
  n = slots_per_day h

  abbrev r : List ℕ
  r = b.read_versions

  positive : 0 < n
  positive = omega (arith, w.day_low)

  span_until : (first last i : ℕ) → (span_stretch h b first last i).until ≡ last * n
  unfolding span_stretch
  span_until first last i = ⊎_elim (λ t. rw t) (λ t. rw t) (either (eqb (state_of h b first last) 1))

  -- a stretch ends at its later boundary, or with the book
  until_last : (first : Option ℕ) (last i : ℕ) → (stretch_of h b first (some last) i).until ≡ last * n
  unfolding stretch_of
  until_last (some first) last i = span_until first last i
  until_last none last i = refl

  until_end : (first : Option ℕ) (i : ℕ) → (stretch_of h b first none i).until ≡ slot_count h
  unfolding stretch_of
  until_end (some first) i = refl
  until_end none i = refl

  -- a boundary without a reading lies in the stretch of the day before it
  same_stretch : (d i : ℕ) → d < h.days → is_read r (suc d) ≡ false → stretch_on h b d i ≡ stretch_on h b (suc d) i
  unfolding stretch_on last_read
  same_stretch d i l t =
      let e : next_read r (d + 1) (h.days - d) ≡ next_read r (suc d + 1) (h.days - suc d) =
      let f : h.days - d ≡ suc h.days - (d + 1) = omega arith in
      let g : h.days - suc d ≡ suc h.days - (suc d + 1) = omega arith in
      rw (f, g, add-one d) (next_on r (suc h.days) (suc d) (omega arith) t) in
      rw (t, e)

  -- a stretch that ends at the boundary behind day d, where there is a reading
  read_ends : (d i : ℕ) → d < h.days → is_read r (suc d) ≡ true → (stretch_on h b d i).until ≡ suc d * n
  unfolding stretch_on
  read_ends d i l t =
      let e : next_read r (d + 1) (h.days - d) ≡ some (suc d) =
      let f : h.days - d ≡ suc h.days - (d + 1) = omega arith in
      rw (f, add-one d) (next_at r (suc h.days) (suc d) (omega arith) t) in
      rw e (until_last (last_read r d) (suc d) i)

  day_before : (j : ℕ) → suc j < slot_count h → j / n < h.days
  day_before j l = day_below h w j (omega arith)

  -- no span begins inside a day, or at a boundary without a reading
  none_inside : (j : ℕ) → suc j / n ≡ j / n → begins_at h b (suc j) ≡ None
  unfolding begins_at
  none_inside j e =
      let z : suc j % n ≡ 0 → ⊥ = λ m. omega (arith, div-add-mod' (suc j) n, div-add-mod' j n, ap (λ (x : ℕ). x * n) e) in
      rw (ne_eqb (suc j % n) 0 z)

  none_unread : (i : ℕ) → is_read r (i / n) ≡ false → begins_at h b i ≡ None
  unfolding begins_at span_from
  none_unread i t = rw t (go (eqb (i % n) 0) None)
    where
      go : (x : Bool) (y : Coded Span) → cond x y y ≡ y
      go true y = refl
      go false y = refl

  -- where the carried stretch goes on, it is the slot's, and no span begins
  pub carried_on : (i : ℕ) → i < slot_count h → (i ≡ (carried_at h b i).until → ⊥)
      → (begins_at h b i ≡ None) × (carried_at h b i ≡ stretch_at h b i)
  unfolding carried_at stretch_at
  carried_on zero l x = absurd (x refl)
  carried_on (suc j) l x = ⊎_elim inside first (day_step n j positive)
    where
      inside : suc j / n ≡ j / n → (begins_at h b (suc j) ≡ None) × (stretch_on h b (j / n) (suc j) ≡ stretch_on h b (suc j / n) (suc j))
      inside e = (none_inside j e, rw e)

      first : (suc j ≡ suc (j / n) * n) × (suc j / n ≡ suc (j / n))
          → (begins_at h b (suc j) ≡ None) × (stretch_on h b (j / n) (suc j) ≡ stretch_on h b (suc j / n) (suc j))
      first (p, e) =
          ⊎_elim (λ t. absurd (x (p ∙ sym (read_ends (j / n) (suc j) (day_before j l) t))))
          (λ t. (none_unread (suc j) (rw e t), rw e (same_stretch (j / n) (suc j) (day_before j l) t)))
          (either (is_read r (suc (j / n))))

  last_here : (d : ℕ) → is_read r d ≡ true → last_read r d ≡ cond (is_read r d) (some d) none
  unfolding last_read
  last_here zero t = refl
  last_here (suc d) t = rw t

  -- where it ends, a day begins, and its boundary has a reading if it is not the first
  pub carried_ends : (i : ℕ) → i < slot_count h → i ≡ (carried_at h b i).until
      → (i ≡ i / n * n) × (last_read r (i / n) ≡ cond (is_read r (i / n)) (some (i / n)) none)
  unfolding carried_at last_read stretch_on
  carried_ends zero l x = rw (zero-div n) (sym (zero-mul n), refl)
  carried_ends (suc j) l x = go (next_read r (j / n + 1) (h.days - j / n)) refl x
    where
      go : (o : Option ℕ) → next_read r (j / n + 1) (h.days - j / n) ≡ o → suc j ≡ (stretch_of h b (last_read r (j / n)) o (suc j)).until
          → (suc j ≡ suc j / n * n) × (last_read r (suc j / n) ≡ cond (is_read r (suc j / n)) (some (suc j / n)) none)
      go none e y = absurd (omega (arith, until_end (last_read r (j / n)) (suc j)))
      go (some last) e y =
          let p : suc j ≡ last * n = y ∙ until_last (last_read r (j / n)) last (suc j) in
          let q : suc j / n ≡ last = ap (λ (x : ℕ). x / n) p ∙ mul-div_cancel last positive in
          let t = (next_tells r (h.days - j / n) (j / n + 1) last e).here in
          (p ∙ ap (λ (x : ℕ). x * n) (sym q), rw q (last_here last t))

  -- the stretch that begins at slot i, the first of a day
  module _ (i : ℕ) (p : i ≡ i / n * n) where
    day_begins : eqb (i % n) 0 ≡ true
    day_begins = eq-eqb (i % n) 0 (omega (arith, div-add-mod' i n))

    pub begins_some : (last : ℕ) → next_read r (i / n + 1) (h.days - i / n) ≡ some last → begins_with h b (i / n) last ≡ begins_at h b i
    unfolding begins_at begins_with span_from span_to
    begins_some last e = rw (day_begins, e) (⊎_elim (λ t. rw t) (λ t. rw t) (either (is_read r (i / n))))

    pub begins_none : next_read r (i / n + 1) (h.days - i / n) ≡ none → begins_at h b i ≡ None
    unfolding begins_at span_from span_to
    begins_none e = rw (day_begins, e) (⊎_elim (λ t. rw t) (λ t. rw t) (either (is_read r (i / n))))

  pub stretch_none : (i : ℕ) → next_read r (i / n + 1) (h.days - i / n) ≡ none → stretch_at h b i ≡ unscaled_to (slot_count h)
  unfolding stretch_at stretch_on stretch_of
  stretch_none i e = rw e (go (last_read r (i / n)))
    where
      go : (f : Option ℕ) → stretch_of h b f none i ≡ unscaled_to (slot_count h)
      go (some f) = refl
      go none = refl

  pub stretch_some : (i last : ℕ) → last_read r (i / n) ≡ cond (is_read r (i / n)) (some (i / n)) none
      → next_read r (i / n + 1) (h.days - i / n) ≡ some last → stretch_from h b (i / n) last i ≡ stretch_at h b i
  unfolding stretch_at stretch_on stretch_of stretch_from
  stretch_some i last f e = rw (f, e) (⊎_elim (λ t. rw t) (λ t. rw t) (either (is_read r (i / n))))

  in_book : (last : ℕ) → last ≤ h.days → last * n ≤ slot_count h
  unfolding slot_count
  in_book last l = rw (mul_comm n h.days) (mul-le-mul l (le_refl n))

  -- a stretch ends behind its slots, and in the book
  pub stretch_ahead : (i : ℕ) → i < slot_count h → (i < (stretch_at h b i).until) × ((stretch_at h b i).until ≤ slot_count h)
  unfolding stretch_at stretch_on
  stretch_ahead i l = go (next_read r (i / n + 1) (h.days - i / n)) refl
    where
      go : (o : Option ℕ) → next_read r (i / n + 1) (h.days - i / n) ≡ o
          → (i < (stretch_of h b (last_read r (i / n)) o i).until) × ((stretch_of h b (last_read r (i / n)) o i).until ≤ slot_count h)
      go none e = rw (until_end (last_read r (i / n)) i) (l, le_refl _)
      go (some last) e =
          let t = next_tells r (h.days - i / n) (i / n + 1) last e in
          let m : last ≤ h.days = omega (arith, t.low, t.high) in
          rw (until_last (last_read r (i / n)) last i) ((div-lt_iff_lt-mul positive).0 (omega (arith, t.low)), in_book last m)

-- the search over a list of D + 1 boundaries, behind day d
pub next_behind : (h : Head) (r : List ℕ) (d : ℕ) (o : Option ℕ) → length r ≡ suc h.days → next_read r (d + 1) (length r - (d + 1)) ≡ o
    → next_read r (d + 1) (h.days - d) ≡ o
next_behind h r d o l e =
    let f : h.days - d ≡ length r - (d + 1) = omega arith in
    rw f e
