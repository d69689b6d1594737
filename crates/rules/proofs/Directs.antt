-- Direct slots: good or agreed, their outcomes their own cells'.
use mathlib.Core.Bool.{Bool, true, false, ◌||◌, or-true, false≢true}
use mathlib.Core.List.{List}
use mathlib.Core.Path.{◌≡◌, refl, sym, ap, ◌∙◌}
use Prim.Native.Nat.{ℕ, zero, suc, ◌+◌, ◌-◌, ◌*◌, ◌≤◌, ◌<◌}
use native.Mathlib.Nat.{add-zero, add-suc, add_assoc}
use native.Mathlib.Numerals.{add-one}
use native.Mathlib.Omega.{arith}
use borrow.Author.Count.{below_more}
use borrow.Author.Tests.{lt-ltb, ltb-true}
use lib.ListN.{get_or}
use Rattle.base.specs.Lists.{sum}
use Rattle.base.proofs.Sums.{sum_more}
use Rattle.rules.specs.declared.Head.{Head}
use Rattle.rules.specs.Opening.{Slots, Agreed, slot_count}
use Rattle.rules.specs.Tests.{good_at}
use Rattle.rules.specs.Filling.{is_agreed, filled_at, shape_of, shape_at}
use Rattle.rules.specs.declared.spans.Summary.{Summary}
use Rattle.rules.specs.Inner.Summaries.{summary_of, actual_added, added_to}
use Rattle.rules.specs.Inner.Walks.{zero_at, zero_before, direct_at, direct_of, bare_line, line_before, DirectTo}
use Rattle.rules.proofs.Fillings.{filled_agreed}
use Rattle.rules.proofs.Lines.{line_none}
use Rattle.rules.proofs.Outages.{filled_good}
use Rattle.rules.proofs.Runs.{run_good, run_agreed}
use Rattle.rules.proofs.Shapes.{shape_filled}
use Rattle.rules.proofs.Summaries.{added_actual, added_agreed, summary_on}

module _ (h : Head) (s : Slots) (a : Agreed) (i : ℕ) where
  pub direct_good : good_at h s i ≡ true → direct_at h s a i ≡ true
  unfolding direct_at
  direct_good g = rw g

  pub direct_agreed : (get_or a.versions i 0 ≡ 0 → ⊥) → direct_at h s a i ≡ true
  unfolding direct_at is_agreed
  direct_agreed n =
      let l : 0 < get_or a.versions i 0 = omega arith in
      rw (lt-ltb _ _ l, or-true)

  pub direct_none : good_at h s i ≡ false → get_or a.versions i 0 ≡ 0 → direct_at h s a i ≡ false
  unfolding direct_at is_agreed
  direct_none g e = rw (g, e)

  pub good_value : good_at h s i ≡ true → get_or s.values i 0 ≡ (direct_of h s a i).value
  unfolding direct_of
  good_value g = rw g

  pub agreed_value : good_at h s i ≡ false → get_or a.values i 0 ≡ (direct_of h s a i).value
  unfolding direct_of
  agreed_value g = rw g

  has_cause : direct_at h s a i ≡ false → (good_at h s i ≡ false) × (is_agreed a.versions i ≡ false)
  unfolding direct_at
  has_cause e = go (good_at h s i) (is_agreed a.versions i) e
    where
      go : (g t : Bool) → (g || t) ≡ false → (g ≡ false) × (t ≡ false)
      go true t e = absurd (false≢true (sym e))
      go false t e = (refl, e)

module _ (h : Head) (s : Slots) (a : Agreed) (i : ℕ) (d : direct_at h s a i ≡ true) where
  -- good, or agreed with a cause
  cases : {P : Type 0} → (good_at h s i ≡ true → P) → (good_at h s i ≡ false → is_agreed a.versions i ≡ true → P) → P
  unfolding direct_at
  cases {P} x y = go (good_at h s i) (is_agreed a.versions i) refl refl
    where
      go : (g t : Bool) → good_at h s i ≡ g → is_agreed a.versions i ≡ t → P
      go true t p q = x p
      go false true p q = y p q
      go false false p q = absurd (false≢true (sym (λ k. p k || q k) ∙ d))

  pub direct_filled : (holidays : List ℕ) → direct_of h s a i ≡ filled_at h s a holidays i
  unfolding direct_of
  direct_filled holidays = cases (λ p. rw p (filled_good h s a holidays i p)) (λ p q. rw p (filled_agreed h s a holidays i p q))

  -- it has no shape
  pub direct_shape : (holidays : List ℕ) → 0 ≡ shape_at h s a holidays i
  unfolding direct_of shape_of
  direct_shape holidays =
      let e = shape_filled h s a holidays i (direct_of h s a i) (direct_filled holidays) in
      cases (λ p. rw p at e) (λ p q. rw p at e)

  -- it is one A or F slot more
  pub direct_added : (m : Summary) → actual_added m (direct_of h s a i).value ≡ added_to m (direct_of h s a i) 0
  unfolding direct_of
  direct_added m =
      cases (λ p. added_actual m (direct_of h s a i) 0 (rw p)) (λ p q. added_agreed m (direct_of h s a i) 0 (rw p))

  -- and lies in no run
  pub direct_line : bare_line 0 ≡ line_before h s a.versions (suc i)
  unfolding line_before is_agreed
  direct_line =
      line_none h s a.versions i
      (cases (λ p. run_good h s a.versions i p) (λ p q. run_agreed h s a.versions i (ltb-true _ _ q)))

-- the sum of the direct slots from `from` as far as `at`, and outage zero before that slot
pub record Summed (h : Head) (s : Slots) (a : Agreed) (from to : ℕ) (n : ℕ) (last : Bool) (at : ℕ) : Type 0 where
  pub further : from ≤ at
  pub inside : at ≤ to
  pub direct : (i : ℕ) → i < at → from ≤ i → direct_at h s a i ≡ true
  pub outage : last ≡ zero_before s.versions s.statuses (slot_count h) at
  pub total : n ≡ sum (λ i. (direct_of h s a i).value) from (at - from)
  pub low : n ≤ (at - from) * 4_294_967_295

module _ (h : Head) (s : Slots) (a : Agreed) (from to total : ℕ) (outage : Bool) (at : ℕ) (held : Summed h s a from to total outage at)
  where
    pub summed_on : (x : ℕ) (next : Bool) → at < to → direct_at h s a at ≡ true → x ≡ (direct_of h s a at).value → x ≤ 4_294_967_295
        → next ≡ zero_at s.versions s.statuses (slot_count h) at → Summed h s a from to (total + x) next (at + 1)
    unfolding zero_before
    summed_on x next l d e m o =
        let k : at + 1 - from ≡ at - from + 1 = omega (arith, held.further) in
        let p : from + (at - from) ≡ at = omega (arith, held.further) in
        record {
          further = omega (arith, held.further);
          inside = omega arith;
          direct = below_more _ _ held.direct (λ q. d);
          outage = rw (add-one at) o;
          total = rw (k, sum_more (λ i. (direct_of h s a i).value) from (at - from), p) (λ t. held.total t + e t);
          low = omega (arith, held.low, held.further);
        }

    -- where the slots end
    pub summed_end : (at < to → direct_at h s a at ≡ false)
        → DirectTo h s a from to at outage × (total ≡ sum (λ i. (direct_of h s a i).value) from (at - from))
        × (total ≤ (at - from) * 4_294_967_295)
    summed_end stops = (
      record { further = held.further; inside = held.inside; direct = held.direct; stops = stops; outage = held.outage },
      held.total,
      held.low,
    )

-- direct slots from slot `from` as far as slot `end`
module _ (h : Head) (s : Slots) (a : Agreed) (from end : ℕ) (direct : (i : ℕ) → i < end → from ≤ i → direct_at h s a i ≡ true) where
  pub run_line : from < end → bare_line 0 ≡ line_before h s a.versions end
  run_line l =
      let e : suc (end - 1) ≡ end = omega arith in
      rw e at (direct_line h s a (end - 1) (direct (end - 1) (omega arith) (omega arith)))

  -- the sums of a stretch with the next j slots, which are direct
  module _ (holidays : List ℕ) (start k : ℕ) (at : from ≡ start + k) (m : Summary) (e : m ≡ summary_of h s a holidays start k) where
    summary_direct : (j : ℕ) → from + j ≤ end
        → actual_added m (sum (λ i. (direct_of h s a i).value) from j) ≡ summary_of h s a holidays start (k + j)
    unfolding sum
    summary_direct zero l = simp add-zero e
    summary_direct (suc j) l =
        let i : from + j ≡ start + (k + j) = omega arith in
        let d = direct (from + j) (omega arith) (omega arith) in
        let before = sum (λ x. (direct_of h s a x).value) from j in
        let o = direct_of h s a (from + j) in
        let parts : actual_added m (before + o.value) ≡ actual_added (actual_added m before) o.value =
        λ t. record {
          actual = sym (add_assoc m.actual before o.value) t;
          shapes = m.shapes;
          count = m.count;
          hole = m.hole;
          filled = m.filled;
        } in
        rw (add-suc, ← add-one (k + j))
        (summary_on h s a holidays start (k + j) (actual_added m before) _ o 0 (summary_direct j (omega arith))
        (parts ∙ direct_added h s a (from + j) d (actual_added m before))
        (direct_filled h s a (from + j) d holidays ∙ ap (filled_at h s a holidays) i)
        (direct_shape h s a (from + j) d holidays ∙ ap (shape_at h s a holidays) i))

    pub summary_run : (l : ℕ) → end ≡ start + l → from ≤ end
        → actual_added m (sum (λ i. (direct_of h s a i).value) from (end - from)) ≡ summary_of h s a holidays start l
    summary_run l x y =
        let z : k + (end - from) ≡ l = omega arith in
        rw z at (summary_direct (end - from) (omega arith))

-- where no slot is direct, the first has a cause and is not agreed
pub none_direct : (h : Head) (s : Slots) (a : Agreed) (from to end : ℕ) (last : Bool) → DirectTo h s a from to end last → end ≤ from
    → from < to
    → (good_at h s from ≡ false) × (is_agreed a.versions from ≡ false)
none_direct h s a from to end last run l m =
    let e : end ≡ from = omega (arith, run.further) in
    rw e at (has_cause h s a end (run.stops (omega arith)))
