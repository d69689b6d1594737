-- A buffer that is written at its front and from a later place on.
use mathlib.Core.Bool.{true}
use mathlib.Core.List.{List, [], ◌∷◌, ◌++◌, append_assoc, append-nil}
use mathlib.Core.Path.{◌≡◌, refl, sym, ap, ap₂, ◌∙◌}
use Prim.Native.Nat.{ℕ, ◌+◌, ◌-◌, ◌*◌, ◌≤◌}
use native.Mathlib.Nat.{zero-add, add-zero}
use native.Mathlib.Omega.{arith}
use lib.ListN.{length, take, drop, take-append-drop, length-append, length-drop}
use lib.Seq.{take-append_seam, take-append-add, drop-append-le, drop-append-add, drop-drop, drop_at, take-add, length-take-le}
use Rattle.base.specs.Lists.{up_to}
use Rattle.base.proofs.Lists.{length_up_to}
use Rattle.rules.specs.declared.Head.{Head}
use Rattle.file.specs.declared.Figures.{Figures}
use Rattle.rules.specs.declared.Outcome.{Outcome}
use Rattle.rules.specs.declared.Span.{Span}
use Rattle.rules.specs.Opening.{Cells, slot_count}
use Rattle.rules.specs.Spans.{outcome_at, outcomes, spans}
use Rattle.rules.specs.Inner.Passes.{begun_before}
use Rattle.rules.proofs.Bounds.{Bounded}
use Rattle.rules.proofs.SpansInOrder.{begun_all}
use Rattle.file.specs.Layout.{row, table, slot_row, span_row, trailer_row, figures_of, tables_of, file_of}
use Rattle.publishing.specs.Publishing.{published, file_length}
use Rattle.publishing.specs.Inner.Publishing.{first_slots, buffer_of, buffer_at}
use Rattle.file.specs.Inner.Writing.{written}
use Rattle.file.proofs.Written.{length_written, written_more}
use Rattle.file.proofs.Rows.{length_row, length_table}

-- the bytes of d from place a up to place m
abbrev gap : List ℕ → ℕ → ℕ → List ℕ
gap d a m = take (m - a) (drop a d)

module _ (d : List ℕ) where
  front : (s : List ℕ) → written d 0 s ≡ s ++ drop (length s) d
  unfolding written
  front s = rw zero-add

  -- t behind s
  behind : (s t : List ℕ) → length s ≤ length d → written (written d 0 s) (length s) t ≡ written d 0 (s ++ t)
  behind s t l = rw zero-add at (written_more d 0 s t (rw zero-add l))

  -- s at the front and t from place m on
  two : (s t : List ℕ) (m : ℕ) → length s ≤ m → m + length t ≤ length d
      → written (written d 0 s) m t ≡ s ++ (gap d (length s) m ++ (t ++ drop (m + length t) d))
  unfolding written
  two s t m l k =
      let e : m ≡ length s + (m - length s) = omega arith in
      let f : m + length t ≡ length s + (m + length t - length s) = omega arith in
      let p : take m (s ++ drop (length s) d) ≡ s ++ gap d (length s) m =
      ap (λ (x : ℕ). take x (s ++ drop (length s) d)) e ∙ take-append-add s (drop (length s) d) (m - length s) in
      let q : drop (m + length t) (s ++ drop (length s) d) ≡ drop (m + length t) d =
      ap (λ (x : ℕ). drop x (s ++ drop (length s) d)) f ∙ drop-append-add s (drop (length s) d) (m + length t - length s)
      ∙ drop-drop (m + length t - length s) (length s) d ∙ ap (λ (x : ℕ). drop x d) (sym f) in
      rw (zero-add, p, q) (append_assoc s (gap d (length s) m) (t ++ drop (m + length t) d))

  -- more at the front
  pub front_more : (s t r : List ℕ) (m : ℕ) → length s + length r ≤ m → m + length t ≤ length d
      → written (written (written d 0 s) m t) (length s) r ≡ written (written d 0 (s ++ r)) m t
  unfolding written
  front_more s t r m l k =
      let g : List ℕ = gap d (length s) m in
      let x : List ℕ = t ++ drop (m + length t) d in
      let n : length (s ++ r) ≡ length s + length r = length-append s r in
      let a : length r ≤ length g = rw (length-take-le (m - length s) (drop (length s) d) (rw length-drop (omega arith))) (omega arith) in
      let w : written (s ++ (g ++ x)) (length s) r ≡ s ++ (r ++ (drop (length r) g ++ x)) =
      ap₂ (λ (u v : List ℕ). u ++ (r ++ v)) (take-append_seam s (g ++ x))
      (drop-append-add s (g ++ x) (length r) ∙ drop-append-le (length r) g x a) in
      let y : gap d (length s + length r) m ≡ drop (length r) g = rest in
      ap (λ (u : List ℕ). written u (length s) r) (two s t m (omega arith) k) ∙ w
      ∙ sym (two (s ++ r) t m (omega arith) k ∙ (rw (n, y) (append_assoc s r (drop (length r) g ++ x))))
    where
      rest : gap d (length s + length r) m ≡ drop (length r) (gap d (length s) m)
      rest =
          let o : List ℕ = drop (length s) d in
          let e : m - length s ≡ length r + (m - (length s + length r)) = omega arith in
          let n : length r ≤ length o = rw length-drop (omega arith) in
          ap (take (m - (length s + length r))) (sym (drop-drop (length r) (length s) d))
          ∙ sym (ap (λ (x : ℕ). drop (length r) (take x o)) e ∙ ap (drop (length r)) (take-add (length r) (m - (length s + length r)) o)
          ∙ drop_at (take (length r) o) (take (m - (length s + length r)) (drop (length r) o)) (length r) (length-take-le (length r) o n))

-- a table of one row, and of two tables' rows
pub table_one : {X : Type 0} (r : X → List (ℕ × ℕ)) (x : X) → table r (x ∷ []) ≡ row (r x)
unfolding table
table_one r x = append-nil (row (r x))

pub table_append : {X : Type 0} (r : X → List (ℕ × ℕ)) (xs ys : List X) → table r (xs ++ ys) ≡ table r xs ++ table r ys
unfolding table
table_append r [] ys = refl
table_append r (x ∷ xs) ys =
    ap (λ (l : List ℕ). row (r x) ++ l) (table_append r xs ys) ∙ sym (append_assoc (row (r x)) (table r xs) (table r ys))

pub written_none : (d : List ℕ) (at : ℕ) → written d at [] ≡ d
unfolding written
written_none d at = rw add-zero (take-append-drop at d)

-- the buffer of a publishing
module _ (h : Head) (b : Cells) where
  slot_bytes_lem : (os : List Outcome) → length (table slot_row os) ≡ 6 * length os
  slot_bytes_lem os = length_table slot_row 6 (λ x. refl) os

  span_bytes_lem : (ss : List Span) → length (table (span_row true) ss) ≡ 14 * length ss
  span_bytes_lem ss = length_table (span_row true) 14 (λ x. refl) ss

  pub buffer_first : (d : List ℕ) → buffer_at h b d 0 ≡ d
  unfolding buffer_at buffer_of up_to begun_before table
  buffer_first d = rw (written_none d 0) (written_none d (6 * slot_count h))

  -- more slots, and more spans
  pub buffer_slots : (d : List ℕ) (os rest : List Outcome) (ss : List Span) → length os + length rest ≤ slot_count h
      → 6 * slot_count h + 14 * length ss ≤ length d
      → written (buffer_of h d os ss) (6 * length os) (table slot_row rest) ≡ buffer_of h d (os ++ rest) ss
  unfolding buffer_of
  buffer_slots d os rest ss l k =
      let a = slot_bytes_lem os in
      let c = slot_bytes_lem rest in
      let g = span_bytes_lem ss in
      rw (table_append slot_row os rest, ← a)
      (front_more d (table slot_row os) (table (span_row true) ss) (table slot_row rest) (6 * slot_count h) (omega arith) (omega arith))

  pub buffer_spans : (d : List ℕ) (os : List Outcome) (ss rest : List Span) → length os ≤ slot_count h
      → 6 * slot_count h + 14 * length ss ≤ length d
      → written (buffer_of h d os ss) (6 * slot_count h + 14 * length ss) (table (span_row true) rest) ≡ buffer_of h d os (ss ++ rest)
  unfolding buffer_of
  buffer_spans d os ss rest l k =
      let a = slot_bytes_lem os in
      let g = span_bytes_lem ss in
      let n : 0 + length (table slot_row os) ≤ length d = omega arith in
      let o : 6 * slot_count h + length (table (span_row true) ss) ≤ length (written d 0 (table slot_row os)) =
      rw (length_written d 0 (table slot_row os) n) (omega arith) in
      rw (table_append (span_row true) ss rest, ← g)
      (written_more (written d 0 (table slot_row os)) (6 * slot_count h) (table (span_row true) ss) (table (span_row true) rest) o)

  pub length_first : (i : ℕ) → length (first_slots h b i) ≡ i
  length_first i = length_up_to (outcome_at h b) 0 i

  -- the trailer behind both tables ends the file
  file_written : (w : Bounded h) (d : List ℕ) → file_length h b ≤ length d
      → written (buffer_at h b d (slot_count h)) (6 * slot_count h + 14 * length (spans h b))
      (row (trailer_row (figures_of (published h b))))
      ≡ file_of (published h b) ++ drop (file_length h b) d
  unfolding buffer_at buffer_of file_of tables_of file_length published outcomes
  file_written w d k =
      let s : List ℕ = table slot_row (first_slots h b (slot_count h)) in
      let t : List ℕ = table (span_row true) (spans h b) in
      let u : List ℕ = row (trailer_row (figures_of (published h b))) in
      let a = slot_bytes_lem (first_slots h b (slot_count h)) ∙ ap (λ (x : ℕ). 6 * x) (length_up_to (outcome_at h b) 0 (slot_count h)) in
      let c = span_bytes_lem (spans h b) in
      let n : length (s ++ t) ≡ 6 * slot_count h + 14 * length (spans h b) = omega (arith, length-append s t) in
      let o = length_up_to (outcome_at h b) 0 (slot_count h) in
      let g : length u ≡ 32 = length_row (trailer_row (figures_of (published h b))) in
      let p : written (written d 0 s) (6 * slot_count h) t ≡ written d 0 (s ++ t) = rw (sym a) (behind d s t (omega arith)) in
      let q : written (written d 0 (s ++ t)) (6 * slot_count h + 14 * length (spans h b)) u ≡ written d 0 ((s ++ t) ++ u) =
      rw (sym n) (behind d (s ++ t) u (omega arith)) in
      let m : length ((s ++ t) ++ u) ≡ 6 * length (first_slots h b (slot_count h)) + 14 * length (spans h b) + 32 =
      omega (arith, length-append (s ++ t) u) in
      rw (begun_all h b w, p) (q ∙ front d ((s ++ t) ++ u) ∙ ap (λ (x : ℕ). ((s ++ t) ++ u) ++ drop x d) m)

  pub file_put : (w : Bounded h) (d d₁ d₂ : List ℕ) (place : ℕ) (g : Figures) → file_length h b ≤ length d
      → d₁ ≡ buffer_at h b d (slot_count h) → place ≡ 6 * slot_count h + 14 * length (spans h b)
      → g ≡ figures_of (published h b) → d₂ ≡ written d₁ place (row (trailer_row g)) → d₂ ≡ file_of (published h b) ++ drop
      (file_length h b) d
  file_put w d d₁ d₂ place g k x y z e = e ∙ (rw (x, y, z) (file_written w d k))
