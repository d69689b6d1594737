-- The search for references week by week, with what is kept of each.
use mathlib.Core.Bool.{Bool, true, false, cond}
use mathlib.Core.List.{List, [], ◌∷◌, ◌++◌, map, append_assoc, append-nil}
use mathlib.Core.Logic.{⊎_elim}
use mathlib.Core.Path.{◌≡◌, refl, sym, ap, ◌∙◌}
use Prim.Native.Nat.{ℕ, zero, suc, ◌+◌, ◌-◌, ◌*◌, ◌/◌, ◌≤◌, ◌<◌}
use native.Mathlib.Nat.{sub-zero, add-mul, mul_assoc, mul_comm, add-mul-div_right, le-div_iff_mul-le, div-lt_iff_lt-mul}
use native.Mathlib.Numerals.{add-one}
use native.Mathlib.Omega.{arith}
use borrow.Author.Tests.{lt-ltb, le-ltb, ltb-true, ltb-false}
use lib.Dec.{lit<, ltb}
use lib.ListN.{length, get_or, take, set, length-set, get_or-eq_default}
use lib.Seq.{take-suc-set, take-nil, get_or-take, get_or-set_other, length-take-le, ext_get_or}
use Rattle.base.proofs.Logic.{either}
use Rattle.rules.specs.declared.Head.{Head}
use Rattle.rules.specs.Opening.{Slots, slots_per_day}
use Rattle.rules.specs.Weeks.{first_back, farthest_back, weeks_within}
use Rattle.rules.specs.Filling.{is_reference}
use Rattle.rules.specs.Inner.Ways.{InBook, GapsUpTo}
use Rattle.rules.proofs.Bounds.{Bounded}
use Rattle.rules.proofs.Gaps.{gap_passed}
use Rattle.rules.proofs.Weekly.{each_none, each_out, each_found, each_passed}
use Rattle.rules.specs.References.{each_week, each_reference, in_four}

take_map : (f : ℕ → ℕ) (k : ℕ) (xs : List ℕ) → take k (map f xs) ≡ map f (take k xs)
take_map f zero xs = refl
take_map f (suc k) [] = refl
take_map f (suc k) (x ∷ xs) = ap (λ (ys : List ℕ). f x ∷ ys) (take_map f k xs)

-- what is kept of a reference is of its slot: the day and the value at one place are of one slot
module _ (f : ℕ → ℕ) (h : Head) (s : Slots) (holidays : List ℕ) where
  week_map : (out found : Bool) (x : ℕ) (ys xs : List ℕ) → ys ≡ map f xs
      → cond out [] (cond found (f x ∷ ys) ys) ≡ map f (cond out [] (cond found (x ∷ xs) xs))
  week_map true found x ys xs e = refl
  week_map false true x ys xs e = ap (λ (zs : List ℕ). f x ∷ zs) e
  week_map false false x ys xs e = e

  weeks_map : (days j k : ℕ) → each_week f h s holidays days j k ≡ map f (each_week (λ i. i) h s holidays days j k)
  unfolding each_week
  weeks_map days j zero = refl
  weeks_map days j (suc k) =
      week_map (ltb j (days * slots_per_day h)) (is_reference h s holidays (j - days * slots_per_day h)) (j - days * slots_per_day h) _ _
      (weeks_map 7 (j - days * slots_per_day h) k)

  pub of_their_slots : (i : ℕ) → each_reference f h s holidays i ≡ map f (each_reference (λ j. j) h s holidays i)
  unfolding each_reference
  of_their_slots i =
      let first = first_back h holidays (i / slots_per_day h) in
      let k = weeks_within first (farthest_back holidays (i / slots_per_day h)) in
      ap (take 4) (weeks_map first i k) ∙ take_map f 4 (each_week (λ j. j) h s holidays first i k)

module _ (h : Head) (w : Bounded h) where
  abbrev n : ℕ
  n = slots_per_day h

  positive : 0 < n
  positive = omega (arith, w.day_low)

  days_low : (days at : ℕ) → days ≤ at / n → days * n ≤ at
  days_low days at l = (le-div_iff_mul-le positive).0 l

  days_out : (days at : ℕ) → at / n < days → at < days * n
  days_out days at l = (div-lt_iff_lt-mul positive).0 l

  days_on : (days at : ℕ) → days * n ≤ at → at / n ≡ (at - days * n) / n + days
  days_on days at l =
      let e : at ≡ at - days * n + days * n = omega arith in
      ap (λ (x : ℕ). x / n) e ∙ add-mul-div_right (at - days * n) days positive

  -- no week before the book's first is looked at
  each_enough : (f : ℕ → ℕ) (s : Slots) (holidays : List ℕ) (r k days at : ℕ) → days + 7 * r ≤ at / n + 7 → r ≤ k
      → (r < k → at / n < days + 7 * r)
      → each_week f h s holidays days at k ≡ each_week f h s holidays days at r
  unfolding each_week
  each_enough f s holidays zero zero days at p q o = refl
  each_enough f s holidays zero (suc k) days at p q o =
      each_out f h s holidays days at (suc k) (days_out days at (omega (arith, o (omega arith))))
  each_enough f s holidays (suc r) zero days at p q o = absurd (omega arith)
  each_enough f s holidays (suc r) (suc k) days at p q o =
      let l = days_low days at (omega arith) in
      let d = days_on days at l in
      let e = each_enough f s holidays r k 7 (at - days * n) (omega arith) (omega arith) (λ x. omega (arith, o (omega arith))) in
      rw e

-- c numbers are kept, and room is left for 4 - c of the list's
pub kept : List ℕ → ℕ → List ℕ → List ℕ
kept l c rest = take c l ++ take (4 - c) rest

kept_more : (l rest : List ℕ) (c v : ℕ) → c < 4 → c < length l → kept l c (v ∷ rest) ≡ kept (set l c v) (c + 1) rest
unfolding kept
kept_more l rest c v p q =
    let e : 4 - c ≡ suc (4 - suc c) = omega arith in
    rw (e, add-one, take-suc-set l c v q) (sym (append_assoc (take c l) (v ∷ []) (take (4 - suc c) rest)))

kept_nil : (l : List ℕ) (c : ℕ) → kept l c [] ≡ take c l
unfolding kept
kept_nil l c = simp (take-nil, append-nil)

kept_full : (l rest : List ℕ) (c : ℕ) → c ≡ 4 → kept l c rest ≡ take c l
unfolding kept
kept_full l rest c e = rw e (simp append-nil)

-- the first c of four places hold xs, and the others 0
four_places : (l xs : List ℕ) (c : ℕ) → length l ≡ 4 → c ≤ 4 → ((k : ℕ) → c ≤ k → get_or l k 0 ≡ 0) → take c l ≡ xs
    → (l ≡ in_four xs) × (c ≡ length xs)
unfolding in_four
four_places l xs c four low zeros e =
    (ext_get_or 0 l (in_four xs) four (λ k p. at k (omega arith)), long)
  where
    long : c ≡ length xs
    long = sym (length-take-le c l (omega arith)) ∙ ap length e

    each : (k : ℕ) → get_or l k 0 ≡ get_or xs k 0
    each k =
        ⊎_elim
        (λ t. sym (get_or-take c l k 0 (ltb-true k c t)) ∙ ap (λ (y : List ℕ). get_or y k 0) e)
        (λ t. zeros k (ltb-false k c t) ∙ sym (get_or-eq_default xs 0 {n = k} (omega (arith, long, ltb-false k c t))))
        (either (ltb k c))

    at : (k : ℕ) → k < 4 → get_or l k 0 ≡ get_or (in_four xs) k 0
    at zero p = each 0
    at (suc zero) p = each 1
    at (suc (suc zero)) p = each 2
    at (suc (suc (suc zero))) p = each 3
    at (suc (suc (suc (suc k)))) p = absurd (omega arith)

-- what is kept of the references found so far, where the rest are a week before slot `at` and in the weeks before
pub record Keeping (f : ℕ → ℕ) (h : Head) (s : Slots) (holidays : List ℕ) (slot : ℕ) (found : List ℕ) (count at weeks : ℕ) : Type 0 where
  pub four : length found ≡ 4
  pub zeros : (k : ℕ) → count ≤ k → get_or found k 0 ≡ 0
  pub rest : kept found count (each_week f h s holidays 7 at weeks) ≡ each_reference f h s holidays slot

-- where the search stands: all its weeks lie in the book
pub record Standing (h : Head) (slot week count at weeks : ℕ) : Type 0 where
  pub room : count < 4
  pub near : at ≤ slot + week
  pub reach : 7 * weeks ≤ at / slots_per_day h
  pub seven : week ≡ 7 * slots_per_day h

zero_four : (k : ℕ) → ◌≡◌ {A = ℕ} (get_or (0 ∷ 0 ∷ 0 ∷ 0 ∷ []) k 0) 0
zero_four zero = refl
zero_four (suc zero) = refl
zero_four (suc (suc zero)) = refl
zero_four (suc (suc (suc zero))) = refl
zero_four (suc (suc (suc (suc k)))) = refl

module _ (h : Head) (w : Bounded h) (slot week : ℕ) (seven : week ≡ 7 * slots_per_day h) where
  -- the search begins a week behind the first slot that it looks at
  module _ (holidays : List ℕ) (first weeks : ℕ) (e : first ≡ first_back h holidays (slot / n h w))
      (b : InBook first (farthest_back holidays (slot / n h w)) (slot / n h w) weeks) where
    parts : 7 * n h w ≡ first * n h w + (7 - first) * n h w
    parts = let p : 7 ≡ first + (7 - first) = omega (arith, b.short) in ap (λ (x : ℕ). x * n h w) p ∙ add-mul first (7 - first) (n h w)

    module _ (begin : ℕ) (begins : begin ≡ slot + week - first * n h w) where
      begin_day : begin / n h w ≡ slot / n h w + (7 - first)
      begin_day =
          let p : begin ≡ slot + (7 - first) * n h w = omega (arith, parts, seven, begins) in
          ap (λ (x : ℕ). x / n h w) p ∙ add-mul-div_right slot (7 - first) (positive h w)

      pub stands_first : Standing h slot week 0 begin weeks
      stands_first =
          record { room = lit< tt; near = omega (arith, begins); reach = omega (arith, begin_day, b.inside, b.short); seven = seven }

      -- both look at the same slots
      begins_same : (f : ℕ → ℕ) (s : Slots) (k : ℕ) → each_week f h s holidays first slot k ≡ each_week f h s holidays 7 begin k
      unfolding each_week
      begins_same f s zero = refl
      begins_same f s (suc k) =
          let same : begin - 7 * n h w ≡ slot - first * n h w = omega (arith, parts, seven, begins) in
          ⊎_elim
          (λ t.
          let l = ltb-true slot (first * n h w) t in
          rw (t, lt-ltb begin (7 * n h w) (omega (arith, parts, seven, begins))))
          (λ t.
          let l = ltb-false slot (first * n h w) t in
          rw (t, le-ltb begin (7 * n h w) (omega (arith, parts, seven, begins)), same))
          (either (ltb slot (first * n h w)))

      pub keeps_none : (f : ℕ → ℕ) (s : Slots) → Keeping f h s holidays slot (0 ∷ 0 ∷ 0 ∷ 0 ∷ []) 0 begin weeks
      unfolding kept each_reference
      keeps_none f s =
          let g = each_enough h w f s holidays weeks (weeks_within first (farthest_back holidays (slot / n h w))) first slot b.inside
          b.within b.all in
          record { four = refl; zeros = λ k _. zero_four k; rest = rw (← e, g, begins_same f s weeks) }

  module _ {count at weeks : ℕ} (i : Standing h slot week count at weeks) (more : weeks ≡ 0 → ⊥) where
    abbrev next : ℕ
    next = at - week

    within : 7 * n h w ≤ at
    within = days_low h w 7 at (omega (arith, i.reach, more))

    next_day : at / n h w ≡ next / n h w + 7
    next_day = rw seven (days_on h w 7 at within)

    pub stands_on : (c : ℕ) → c < 4 → Standing h slot week c next (weeks - 1)
    stands_on c l =
        record { room = l; near = omega (arith, i.near); reach = omega (arith, i.reach, next_day, more); seven = seven }

    module _ {f : ℕ → ℕ} {s : Slots} {holidays found : List ℕ} (k : Keeping f h s holidays slot found count at weeks) where
      pub keeps_passed : is_reference h s holidays next ≡ false → Keeping f h s holidays slot found count next (weeks - 1)
      keeps_passed e =
          let e' : is_reference h s holidays (at - 7 * n h w) ≡ false = rw seven at e in
          record { four = k.four; zeros = k.zeros; rest = rw (seven, ← each_passed f h s holidays 7 at weeks more within e') k.rest }

      pub keeps_found : (v : ℕ) → v ≡ f next → is_reference h s holidays next ≡ true
          → Keeping f h s holidays slot (set found count v) (count + 1) next (weeks - 1)
      keeps_found v q e =
          let e' : is_reference h s holidays (at - 7 * n h w) ≡ true = rw seven at e in
          let p : count < length found = omega (arith, k.four, i.room) in
          record {
            four = simp length-set k.four;
            zeros = λ j l. get_or-set_other found count j v 0 (λ z. omega arith) ∙ k.zeros j (omega arith);
            rest =
                rw (q, seven)
                (sym (kept_more found _ count _ i.room p) ∙ (rw (each_found f h s holidays 7 at weeks more within e') at k.rest));
          }

  pub weeks_fit : (at weeks : ℕ) → Standing h slot week 0 at weeks → weeks * week ≤ at
  weeks_fit at weeks i =
      let e : weeks * week ≡ 7 * weeks * n h w = rw (seven, ← mul_assoc weeks 7 (n h w), mul_comm weeks 7) in
      rw e (days_low h w (7 * weeks) at i.reach)

  -- the gaps that are passed over
  module _ {f : ℕ → ℕ} {s : Slots} {holidays found : List ℕ} {begin weeks : ℕ} (i : Standing h slot week 0 begin weeks)
      (k : Keeping f h s holidays slot found 0 begin weeks) where
    abbrev Past : ℕ → ℕ → Type 0
    Past at left = Standing h slot week 0 at left × Keeping f h s holidays slot found 0 at left

    past_some : (p at : ℕ) → p ≤ weeks → GapsUpTo s.versions week begin at p → Past at (weeks - p)
    unfolding GapsUpTo
    past_some zero at l e = rw (e, sub-zero) (i, k)
    past_some (suc p) at l g =
        let behind = past_some p (at + week) (omega arith) g.1 in
        let more : weeks - p ≡ 0 → ⊥ = λ z. omega arith in
        let back : at + week - week ≡ at = omega arith in
        let fewer : weeks - p - 1 ≡ weeks - suc p = omega arith in
        let none : is_reference h s holidays (at + week - week) ≡ false = rw back (gap_passed h s holidays at g.0) in
        let next : Past (at + week - week) (weeks - p - 1) =
        (stands_on behind.0 more 0 (lit< tt), keeps_passed behind.0 more behind.1 none) in
        rw (back, fewer) at next

    pub past_gaps : (at left : ℕ) → left ≤ weeks → GapsUpTo s.versions week begin at (weeks - left) → Past at left
    past_gaps at left l g =
        let e : weeks - (weeks - left) ≡ left = omega arith in
        rw e at (past_some (weeks - left) at (omega arith) g)

-- the search is over: four places, and their number
module _ {f : ℕ → ℕ} {h : Head} {s : Slots} {holidays : List ℕ} {slot : ℕ} {found : List ℕ} {count at weeks : ℕ}
    (k : Keeping f h s holidays slot found count at weeks) where
  pub keeps_spent : count < 4 → weeks ≡ 0
      → (found ≡ in_four (each_reference f h s holidays slot)) × (count ≡ length (each_reference f h s holidays slot))
  keeps_spent l z =
      let e : kept found count (each_week f h s holidays 7 at 0) ≡ each_reference f h s holidays slot = rw z at k.rest in
      four_places found _ count k.four (omega arith) k.zeros (sym (kept_nil found count) ∙ (rw (each_none f h s holidays 7 at) at e))

  pub keeps_full : count ≡ 4 → (found ≡ in_four (each_reference f h s holidays slot)) ×
      (count ≡ length (each_reference f h s holidays slot))
  keeps_full z =
      four_places found _ count k.four (omega arith) k.zeros
      (sym (kept_full found (each_week f h s holidays 7 at weeks) count z) ∙ k.rest)

-- the first places of four are the list that is in them
out_of_four : (xs : List ℕ) → length xs ≤ 4 → take (length xs) (in_four xs) ≡ xs
unfolding in_four
out_of_four [] l = refl
out_of_four (a ∷ []) l = refl
out_of_four (a ∷ b ∷ []) l = refl
out_of_four (a ∷ b ∷ c ∷ []) l = refl
out_of_four (a ∷ b ∷ c ∷ d ∷ []) l = refl
out_of_four (a ∷ b ∷ c ∷ d ∷ e ∷ xs) l = absurd (omega arith)

pub first_places : (found xs : List ℕ) (count : ℕ) → found ≡ in_four xs → count ≡ length xs → length xs ≤ 4 → take count found ≡ xs
first_places found xs count e f l = rw (e, f) (out_of_four xs l)
