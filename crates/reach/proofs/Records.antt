-- The bytes of one record of a published file are those of its slot's or its span's outcome.
use mathlib.Core.Bool.{true}
use mathlib.Core.List.{List, [], ◌∷◌, ◌++◌, append_assoc}
use mathlib.Core.Path.{◌≡◌, refl, ◌∙◌}
use Prim.Native.Nat.{ℕ, zero, suc, ◌+◌, ◌*◌, ◌≤◌, ◌<◌}
use native.Mathlib.Nat.{mul-suc, mul-zero, zero-add, not-suc-le-zero, le_of_suc-le-suc}
use native.Mathlib.Omega.{arith}
use lib.ListN.{length, get_or, take, drop, length-drop}
use lib.Seq.{take_at, drop-append-add, drop-append-le, take-append-le}
use Rattle.base.proofs.Lists.{length_up_to, get_d_up_to}
use Rattle.rules.specs.declared.Head.{Head}
use Rattle.rules.specs.Opening.{Cells, slot_count}
use Rattle.rules.specs.Spans.{outcome_at, no_outcome, no_span, outcomes, spans}
use Rattle.file.specs.Layout.{row, table, slot_row, span_row, trailer_row, figures_of, tables_of, file_of}
use Rattle.file.proofs.Content.{length_file}
use Rattle.file.proofs.Rows.{widths, length_row, length_table}
use Rattle.publishing.specs.Publishing.{published}

-- row k of a table of rows that are w wide
module _ {A : Type 0} (r : A → List (ℕ × ℕ)) (w : ℕ) (wide : (x : A) → widths (r x) ≡ w) where
  row_at : (xs : List A) (d : A) (q : List ℕ) (k : ℕ) → k < length xs → take w (drop (w * k) (table r xs ++ q)) ≡ row (r (get_or xs k d))
  unfolding table
  row_at [] d q k l = absurd (not-suc-le-zero l)
  row_at (x ∷ xs) d q zero l = rw (mul-zero, append_assoc) (take_at (row (r x)) (table r xs ++ q) w (length_row (r x) ∙ wide x))
  row_at (x ∷ xs) d q (suc k) l =
      let e : w * suc k ≡ length (row (r x)) + w * k = rw (mul-suc, length_row, wide) (omega arith) in
      rw (append_assoc, e, drop-append-add (row (r x)) (table r xs ++ q) (w * k)) (row_at xs d q k (le_of_suc-le-suc l))

module _ (h : Head) (b : Cells) where
  count : length (outcomes h b) ≡ slot_count h
  unfolding outcomes
  count = length_up_to (outcome_at h b) 0 (slot_count h)

  slot_of : (j : ℕ) → j < slot_count h → get_or (outcomes h b) j no_outcome ≡ outcome_at h b j
  unfolding outcomes
  slot_of j l = rw zero-add at (get_d_up_to (outcome_at h b) no_outcome 0 (slot_count h) j l)

  abbrev rest : List ℕ
  rest = row (trailer_row (figures_of (published h b)))

  parts : file_of (published h b) ≡ table slot_row (outcomes h b) ++ (table (span_row true) (spans h b) ++ rest)
  unfolding file_of tables_of published
  parts = append_assoc (table slot_row (outcomes h b)) (table (span_row true) (spans h b)) rest

  pub slot_record_lem : (j : ℕ) → j < slot_count h → take 6 (drop (6 * j) (file_of (published h b))) ≡ row (slot_row (outcome_at h b j))
  slot_record_lem j l =
      rw (parts, ← slot_of j l)
      (row_at slot_row 6 (λ x. refl) (outcomes h b) no_outcome (table (span_row true) (spans h b) ++ rest) j (omega (arith, count)))

  pub span_record_lem : (k : ℕ) → k < length (spans h b)
      → take 14 (drop (6 * slot_count h + 14 * k) (file_of (published h b))) ≡ row (span_row true (get_or (spans h b) k no_span))
  span_record_lem k l =
      let e : 6 * slot_count h + 14 * k ≡ length (table slot_row (outcomes h b)) + 14 * k =
      omega (arith, count, length_table slot_row 6 (λ x. refl) (outcomes h b)) in
      rw (parts, e, drop-append-add (table slot_row (outcomes h b)) (table (span_row true) (spans h b) ++ rest) (14 * k))
      (row_at (span_row true) 14 (λ x. refl) (spans h b) no_span rest k l)

  -- a part of a list is that part of a longer one
  part_in : (file rest : List ℕ) (w at : ℕ) → at + w ≤ length file → take w (drop at (file ++ rest)) ≡ take w (drop at file)
  part_in file rest w at l =
      rw (drop-append-le at file rest (omega arith)) (take-append-le w (drop at file) rest (simp length-drop (omega arith)))

  long : length (file_of (published h b)) ≡ 6 * slot_count h + 14 * length (spans h b) + 32
  unfolding published
  long = length_file (published h b) ∙ rw count

  pub slot_in_buffer : (rest : List ℕ) (j : ℕ) → j < slot_count h
      → take 6 (drop (6 * j) (file_of (published h b) ++ rest)) ≡ take 6 (drop (6 * j) (file_of (published h b)))
  slot_in_buffer rest j l = part_in (file_of (published h b)) rest 6 (6 * j) (omega (arith, long))

  pub span_in_buffer : (rest : List ℕ) (k : ℕ) → k < length (spans h b)
      → take 14 (drop (6 * slot_count h + 14 * k) (file_of (published h b) ++ rest))
      ≡ take 14 (drop (6 * slot_count h + 14 * k) (file_of (published h b)))
  span_in_buffer rest k l = part_in (file_of (published h b)) rest 14 (6 * slot_count h + 14 * k) (omega (arith, long))
