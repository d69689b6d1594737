-- The spans lie between neighbouring boundaries with a reading, side by side and in order.
use mathlib.Core.Bool.{Bool, true, false, cond, false≢true}
use mathlib.Core.List.{List, [], ◌∷◌, ◌++◌}
use mathlib.Core.Logic.{⊎_elim}
use mathlib.Core.Option.{Option, none, some}
use mathlib.Core.Path.{◌≡◌, refl, sym, ◌∙◌}
use Prim.Native.Nat.{ℕ, zero, suc, ◌+◌, ◌-◌, ◌≤◌, ◌<◌}
use native.Mathlib.Nat.{eq-or-lt_of_le, le_of_suc-le-suc, not-suc-le-zero}
use native.Mathlib.Numerals.{add-one}
use native.Mathlib.Omega.{arith}
use lib.ListN.{length, get_or, length-append}
use lib.Seq.{get_or-append-add}
use Rattle.rules.specs.declared.Head.{Head}
use Rattle.rules.specs.declared.Span.{Span}
use Rattle.rules.specs.Opening.{Cells}
use Rattle.rules.specs.Spans.{is_read, next_read, span_of, no_span, span_to, span_from, spans_from, spans}
use Rattle.rules.proofs.Boundaries.{Next, next_tells, next_nearer, next_none}

pub record Neighbours (h : Head) (b : Cells) (s : Span) : Type 0 where
  pub first_read : is_read b.read_versions s.first ≡ true
  pub last_read_lem : is_read b.read_versions s.last ≡ true
  pub ordered : s.first < s.last
  pub within : s.last ≤ h.days
  pub next : next_read b.read_versions (s.first + 1) (h.days - s.first) ≡ some s.last
  pub figures : s ≡ span_of h b s.first s.last

module _ (h : Head) (b : Cells) where
  -- the next boundary with a reading after d, if there is one
  abbrev after : ℕ → Option ℕ
  after d = next_read b.read_versions (d + 1) (h.days - d)

  abbrev read : ℕ → Bool
  read d = is_read b.read_versions d

  pub neighbours : (first last : ℕ) → read first ≡ true → after first ≡ some last → Neighbours h b (span_of h b first last)
  unfolding span_of
  neighbours first last t e =
      let p = next_tells b.read_versions (h.days - first) (first + 1) last e in
      record {
        first_read = t;
        last_read_lem = p.here;
        ordered = omega (arith, p.low);
        within = omega (arith, p.low, p.high);
        next = e;
        figures = refl;
      }

  -- the span that begins at boundary d, if there is one
  data Beginning (d : ℕ) : List Span → Type 0 where
    none_here : (read d ≡ true → after d ≡ none) → Beginning d []
    one_here : (last : ℕ) → read d ≡ true → after d ≡ some last → Beginning d (span_of h b d last ∷ [])

  beginning : (d : ℕ) → Beginning d (span_from h b d)
  unfolding span_from span_to
  beginning d = go (read d) refl
    where
      to : (o : Option ℕ) → read d ≡ true → after d ≡ o → Beginning d (span_to h b d o)
      to none t e = none_here (λ _. e)
      to (some last) t e = one_here last t e

      go : (t : Bool) → read d ≡ t → Beginning d (cond t (span_to h b d (after d)) [])
      go true t = to (after d) t refl
      go false t = none_here (λ e. absurd (false≢true (sym t ∙ e)))

  -- each is a span that begins at d or later
  abbrev Each : ℕ → List Span → Type 0
  Each d xs = (j : ℕ) → j < length xs → Neighbours h b (get_or xs j no_span) × (d ≤ (get_or xs j no_span).first)

  each_more : (d : ℕ) {xs : List Span} (ys : List Span) → Beginning d xs → Each (suc d) ys → Each d (xs ++ ys)
  unfolding span_of
  each_more d ys (none_here w) later j l = let (n, m) = later j l in (n, omega arith)
  each_more d ys (one_here last t e) later zero l = (neighbours d last t e, omega arith)
  each_more d ys (one_here last t e) later (suc j) l = let (n, m) = later j (le_of_suc-le-suc l) in (n, omega arith)

  each : (k d : ℕ) → Each d (spans_from h b d k)
  unfolding spans_from
  each zero d j l = absurd (not-suc-le-zero l)
  each (suc k) d j l = each_more d (spans_from h b (suc d) k) (beginning d) (each k (suc d)) j l

  pub each_span_lem : (j : ℕ) → j < length (spans h b) → Neighbours h b (get_or (spans h b) j no_span)
  unfolding spans
  each_span_lem j l = (each h.days 0 j l).0

  -- the first of them, if there is one, begins at `last`
  abbrev Starts : ℕ → List Span → Type 0
  Starts last xs = 0 < length xs → (get_or xs 0 no_span).first ≡ last

  -- with no boundary read after d, no span begins there
  none_after : (d : ℕ) (ys : List Span) → after d ≡ none → Each (suc d) ys → 0 < length ys → ⊥
  none_after d ys e later l =
      let (n, m) = later 0 l in
      let unread : read (get_or ys 0 no_span).last ≡ false =
      next_none b.read_versions (h.days - d) (d + 1) e (get_or ys 0 no_span).last (omega (arith, n.ordered))
      (omega (arith, n.ordered, n.within)) in
      false≢true (sym unread ∙ n.last_read_lem)

  starts_more : (d m last : ℕ) {xs : List Span} (ys : List Span) → Beginning d xs → Each (suc d) ys
      → Next b.read_versions d m last → (Next b.read_versions (suc d) m last → Starts last ys) → Starts last (xs ++ ys)
  unfolding span_of
  starts_more d m last ys (none_here w) rest p later l =
      ⊎_elim (λ z. absurd (none_after d ys (w (rw z p.here)) rest l))
      (λ n. later (next_nearer b.read_versions p m n (omega (arith, p.high))) l)
      (eq-or-lt_of_le p.low)
  starts_more d m last ys (one_here end t e) rest p later l =
      ⊎_elim (λ z. z) (λ n. absurd (false≢true (sym (p.before d (omega arith) n) ∙ t))) (eq-or-lt_of_le p.low)

  -- the first of the spans from d begins at the first boundary from d that is read
  starts : (k d m last : ℕ) → Next b.read_versions d m last → Starts last (spans_from h b d k)
  unfolding spans_from
  starts zero d m last p l = absurd (not-suc-le-zero l)
  starts (suc k) d m last p l =
      starts_more d m last (spans_from h b (suc d) k) (beginning d) (each k (suc d)) p (starts k (suc d) m last) l

  -- each but the first begins where the one before ended
  abbrev Chain : List Span → Type 0
  Chain xs = (j : ℕ) → suc j < length xs → (get_or xs (suc j) no_span).first ≡ (get_or xs j no_span).last

  chain_more : (d : ℕ) {xs : List Span} (ys : List Span) → Beginning d xs
      → ((last : ℕ) → Next b.read_versions (suc d) (h.days - d) last → Starts last ys) → Chain ys → Chain (xs ++ ys)
  unfolding span_of
  chain_more d ys (none_here w) next later j l = later j l
  chain_more d ys (one_here last t e) next later zero l =
      next last (rw add-one at (next_tells b.read_versions (h.days - d) (d + 1) last e)) (le_of_suc-le-suc l)
  chain_more d ys (one_here last t e) next later (suc j) l = later j (le_of_suc-le-suc l)

  chain : (k d : ℕ) → Chain (spans_from h b d k)
  unfolding spans_from
  chain zero d j l = absurd (not-suc-le-zero l)
  chain (suc k) d j l =
      chain_more d (spans_from h b (suc d) k) (beginning d) (starts k (suc d) (h.days - d)) (chain k (suc d)) j l

  pub side_by_side : (j : ℕ) → suc j < length (spans h b) → (get_or (spans h b) (suc j) no_span).first ≡ (get_or (spans h b) j no_span).last
  unfolding spans
  side_by_side j l = chain h.days 0 j l

  at_most_one : (d : ℕ) {xs : List Span} → Beginning d xs → length xs ≤ 1
  at_most_one d (none_here w) = omega arith
  at_most_one d (one_here last t e) = omega arith

  few : (k d : ℕ) → length (spans_from h b d k) ≤ k
  unfolding spans_from
  few zero d = omega arith
  few (suc k) d = rw length-append (omega (arith, at_most_one d (beginning d), few k (suc d)))

  pub spans_few : length (spans h b) ≤ h.days
  unfolding spans
  spans_few = few h.days 0

  span_here : (first last : ℕ) → read first ≡ true → after first ≡ some last → span_from h b first ≡ span_of h b first last ∷ []
  unfolding span_from span_to
  span_here first last t e = rw (t, e)

  found : (k d first last : ℕ) → d ≤ first → first < d + k → read first ≡ true → after first ≡ some last
      → (j : ℕ) × (j < length (spans_from h b d k)) × (get_or (spans_from h b d k) j no_span ≡ span_of h b first last)
  unfolding spans_from
  found zero d first last p q t e = absurd (omega arith)
  found (suc k) d first last p q t e =
      ⊎_elim
      (λ (z : d ≡ first).
      let x : span_from h b d ≡ span_of h b first last ∷ [] = rw z (span_here first last t e) in
      rw x (0, omega arith, refl))
      (λ m.
      let (j, l, s) = found k (suc d) first last m (omega arith) t e in (
        length (span_from h b d) + j,
        rw length-append (omega arith),
        get_or-append-add (span_from h b d) (spans_from h b (suc d) k) j no_span ∙ s,
      ))
      (eq-or-lt_of_le p)

  -- two neighbouring boundaries with a reading have their span
  pub span_found : (first last : ℕ) → first < h.days → read first ≡ true → after first ≡ some last
      → (j : ℕ) × (j < length (spans h b)) × (get_or (spans h b) j no_span ≡ span_of h b first last)
  unfolding spans
  span_found first last l t e = found h.days 0 first last (omega arith) (omega arith) t e
