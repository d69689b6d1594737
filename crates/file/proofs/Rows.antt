-- Rows of fields and tables of rows: what is written is read, and what is read is written.
use mathlib.Core.Path.{◌≡◌, refl, sym, ap, ap₂, ◌∙◌, subst}
use mathlib.Core.List.{List, [], ◌∷◌, ◌++◌, append_assoc}
use Prim.Native.Nat.{ℕ, zero, suc, ◌+◌, ◌*◌, ◌/◌, ◌^◌, ◌≤◌, ◌<◌}
use native.Mathlib.Nat.{add-zero, zero-add, mul-suc, mul-zero, not-suc-le-zero, le_of_suc-le-suc, mod-lt}
use native.Mathlib.Omega.{arith}
use lib.Dec.{lit<}
use lib.ListN.{length, get_or, take, drop, length-append}
use lib.Seq.{take-add, drop-drop}
use Rattle.base.specs.Lists.{up_to}
use Rattle.file.specs.Layout.{bytes, row, row_width, table}
use Rattle.file.specs.Reader.{num, field_at}
use Rattle.file.specs.Contents.{Bytes}
use Rattle.file.proofs.Numbers.{length_bytes, num_skip, num_take, num_bytes, bytes_num}

-- ---- Rows

abbrev pub widths : List (ℕ × ℕ) → ℕ
widths [] = 0
widths (f ∷ fs) = f.0 + widths fs

pub length_row : (fs : List (ℕ × ℕ)) → length (row fs) ≡ widths fs
unfolding row
length_row [] = refl
length_row (f ∷ fs) = length-append (bytes f.0 f.1) (row fs) ∙ ap₂ (λ (x y : ℕ). x + y) (length_bytes f.0 f.1) (length_row fs)

-- the place of field j
abbrev pub before : List (ℕ × ℕ) → ℕ → ℕ
before [] j = 0
before (f ∷ fs) zero = 0
before (f ∷ fs) (suc j) = f.0 + before fs j

abbrev pub field : List (ℕ × ℕ) → ℕ → ℕ × ℕ
field fs j = get_or fs j (0, 0)

pub field_at_lem : (fs : List (ℕ × ℕ)) (q : List ℕ) (j : ℕ) → j < length fs → (field fs j).1 < 256 ^ (field fs j).0
    → num (field fs j).0 (row fs ++ q) (before fs j) ≡ (field fs j).1
unfolding row
field_at_lem [] q j h fit = absurd (not-suc-le-zero h)
field_at_lem (f ∷ fs) q zero h fit = rw append_assoc (num_bytes f.0 f.1 (row fs ++ q) fit)
field_at_lem (f ∷ fs) q (suc j) h fit =
    rw append_assoc
    (subst (λ (n : ℕ). num (field fs j).0 (bytes f.0 f.1 ++ (row fs ++ q)) (n + before fs j) ≡ (field fs j).1)
    (length_bytes f.0 f.1)
    (num_skip (bytes f.0 f.1) (row fs ++ q) (field fs j).0 (before fs j) ∙ field_at_lem fs q j (le_of_suc-le-suc h) fit))

-- ---- Tables of rows that are w wide

module _ {A : Type 0} (r : A → List (ℕ × ℕ)) (w : ℕ) (wide : (x : A) → widths (r x) ≡ w) where
  pub length_table : (xs : List A) → length (table r xs) ≡ w * length xs
  unfolding table
  length_table [] = sym (mul-zero w)
  length_table (x ∷ xs) =
      length-append (row (r x)) (table r xs)
      ∙ ap₂ (λ (m n : ℕ). m + n) (length_row (r x) ∙ wide x) (length_table xs)
      ∙ rw mul-suc (omega arith)

  -- the bytes of row i
  pub table_at : (xs : List A) (d : A) (q : List ℕ) (i k o : ℕ) → i < length xs
      → num k (table r xs ++ q) (w * i + o) ≡ num k (row (r (get_or xs i d)) ++ (table r (drop (suc i) xs) ++ q)) o
  unfolding table
  table_at [] d q i k o h = absurd (not-suc-le-zero h)
  table_at (x ∷ xs) d q zero k o h =
      rw (append_assoc, mul-zero, zero-add)
  table_at (x ∷ xs) d q (suc i) k o h =
      let e : w * suc i + o ≡ length (row (r x)) + (w * i + o) = rw (mul-suc, length_row, wide) (omega arith) in
      rw (append_assoc, e) (num_skip (row (r x)) (table r xs ++ q) k (w * i + o) ∙ table_at xs d q i k o (le_of_suc-le-suc h))

  -- field j of row i
  pub table_field : (xs : List A) (d : A) (q : List ℕ) (i j : ℕ) → i < length xs → j < length (r (get_or xs i d))
      → (field (r (get_or xs i d)) j).1 < 256 ^ (field (r (get_or xs i d)) j).0
      → num (field (r (get_or xs i d)) j).0 (table r xs ++ q) (w * i + before (r (get_or xs i d)) j) ≡ (field (r (get_or xs i d)) j).1
  table_field xs d q i j h hj fit =
      table_at xs d q i (field (r (get_or xs i d)) j).0 (before (r (get_or xs i d)) j) h
      ∙ field_at_lem (r (get_or xs i d)) (table r (drop (suc i) xs) ++ q) j hj fit

-- ---- What is read is written: rows and tables

pub join : (bs : List ℕ) (k m at : ℕ) → take k (drop at bs) ++ take m (drop (at + k) bs) ≡ take (k + m) (drop at bs)
join bs k m at = rw (take-add, drop-drop)

-- the fields of these widths with the numbers that f gives
abbrev pub listed : (ℕ → ℕ) → List ℕ → List (ℕ × ℕ)
listed f [] = []
listed f (w ∷ ws) = (w, f 0) ∷ listed (λ k. f (suc k)) ws

row_listed : (bs : List ℕ) → Bytes bs → (ws : List ℕ) (at : ℕ) (f : ℕ → ℕ) → ((k : ℕ) → f k ≡ field_at ws bs at k)
    → at + row_width ws ≤ length bs → row (listed f ws) ≡ take (row_width ws) (drop at bs)
unfolding row
row_listed bs b [] at f e h = refl
row_listed bs b (w ∷ ws) at f e h =
    let here : f 0 ≡ num w bs at = e 0 ∙ ap (num w bs) (add-zero at) in
    let rest : (k : ℕ) → f (suc k) ≡ field_at ws bs (at + w) k = λ k. e (suc k) ∙ ap (num (get_or ws k 0) bs) (omega arith) in
    ap₂ (λ (x y : List ℕ). x ++ y) (ap (bytes w) here ∙ bytes_num bs b w at (omega arith))
    (row_listed bs b ws (at + w) _ rest (omega arith))
    ∙ join bs w (row_width ws) at

-- the fields that are read from a place on
pub row_reads : (bs : List ℕ) → Bytes bs → (ws : List ℕ) (at : ℕ) → at + row_width ws ≤ length bs
    → row (listed (field_at ws bs at) ws) ≡ take (row_width ws) (drop at bs)
row_reads bs b ws at h = row_listed bs b ws at (field_at ws bs at) (λ k. refl) h

-- what is after a row does not matter
field_inside : (ws : List ℕ) (k : ℕ) → row_width (take k ws) + get_or ws k 0 ≤ row_width ws
field_inside [] zero = omega arith
field_inside [] (suc k) = omega arith
field_inside (w ∷ ws) zero = omega arith
field_inside (w ∷ ws) (suc k) = omega (arith, field_inside ws k)

pub field_take : (bs : List ℕ) (t : ℕ) (ws : List ℕ) (at : ℕ) → at + row_width ws ≤ t → (k : ℕ)
    → field_at ws (take t bs) at k ≡ field_at ws bs at k
field_take bs t ws at l k = num_take bs t (get_or ws k 0) (at + row_width (take k ws)) (omega (arith, field_inside ws k))

module _ {A : Type 0} (r : A → List (ℕ × ℕ)) (w : ℕ) (f : ℕ → A) (bs : List ℕ) (b : ℕ) where
  table_up_to : (a n : ℕ) → ((i : ℕ) → i < a + n → row (r (f i)) ≡ take w (drop (b + w * i) bs))
      → table r (up_to f a n) ≡ take (w * n) (drop (b + w * a) bs)
  unfolding table up_to
  table_up_to a zero h = rw mul-zero
  table_up_to a (suc n) h =
      let e : b + w * suc a ≡ b + w * a + w = rw mul-suc (omega arith) in
      let m : w + w * n ≡ w * suc n = rw mul-suc (omega arith) in
      ap₂ (λ (x y : List ℕ). x ++ y) (h a (omega arith))
      (table_up_to (suc a) n (λ i l. h i (omega arith)) ∙ ap (λ (m : ℕ). take (w * n) (drop m bs)) e)
      ∙ join bs w (w * n) (b + w * a) ∙ ap (λ (k : ℕ). take k (drop (b + w * a) bs)) m

  -- a table of what is read from place b on
  pub table_reads : (n : ℕ) → ((i : ℕ) → i < n → row (r (f i)) ≡ take w (drop (b + w * i) bs))
      → table r (up_to f 0 n) ≡ take (w * n) (drop b bs)
  table_reads n h = table_up_to 0 n (λ i l. h i (omega arith)) ∙ rw (mul-zero, add-zero)

-- ---- What is written are bytes

pub joined_bytes : (p q : List ℕ) → Bytes p → Bytes q → Bytes (p ++ q)
joined_bytes [] q b d i = d i
joined_bytes (x ∷ p) q b d zero = b 0
joined_bytes (x ∷ p) q b d (suc i) = joined_bytes p q (λ j. b (suc j)) d i

number_bytes : (k n : ℕ) → Bytes (bytes k n)
unfolding bytes
number_bytes zero n i = lit< tt
number_bytes (suc k) n zero = mod-lt n (lit< tt)
number_bytes (suc k) n (suc i) = number_bytes k (n / 256) i

pub row_bytes : (fs : List (ℕ × ℕ)) → Bytes (row fs)
unfolding row
row_bytes [] i = lit< tt
row_bytes (f ∷ fs) i = joined_bytes (bytes f.0 f.1) (row fs) (number_bytes f.0 f.1) (row_bytes fs) i

pub table_bytes : {A : Type 0} (r : A → List (ℕ × ℕ)) (xs : List A) → Bytes (table r xs)
unfolding table
table_bytes r [] i = lit< tt
table_bytes r (x ∷ xs) i = joined_bytes (row (r x)) (table r xs) (row_bytes (r x)) (table_bytes r xs) i
