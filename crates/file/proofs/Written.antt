-- What is written into a buffer, byte by byte and row by row.
use mathlib.Core.Path.{◌≡◌, refl, sym, ap, ◌∙◌, subst}
use mathlib.Core.List.{List, [], ◌∷◌, ◌++◌, append_assoc, append-nil}
use Prim.Native.Nat.{ℕ, suc, ◌+◌, ◌-◌, ◌/◌, ◌%◌, ◌≤◌, ◌<◌}
use native.Mathlib.Numerals.{add-one}
use native.Mathlib.Omega.{arith}
use lib.ListN.{length, get_or, set, take, drop, length-append, length-drop}
use lib.Seq.{drop-cons, drop-drop, paste, paste-suc, take-length, take_at, drop-append-add, length-take-le}
use Rattle.file.specs.Layout.{bytes, row}
use Rattle.file.specs.Inner.Writing.{written}
use Rattle.file.proofs.Numbers.{length_bytes}
use Rattle.file.proofs.Rows.{widths, length_row}

-- the next byte to write, and the rest
pub bytes_next : (w v j n : ℕ) → j < w → drop j (bytes w v) ≡ bytes (w - j) n
    → (get_or (bytes w v) j 0 ≡ n % 256) × (drop (j + 1) (bytes w v) ≡ bytes (w - (j + 1)) (n / 256))
unfolding bytes
bytes_next w v j n l e =
    let short : j < length (bytes w v) = rw (length_bytes w v) l in
    let k : w - j ≡ suc (w - (j + 1)) = omega arith in
    let both : get_or (bytes w v) j 0 ∷ drop (suc j) (bytes w v) ≡ n % 256 ∷ bytes (w - (j + 1)) (n / 256) =
    sym (drop-cons (bytes w v) j 0 short) ∙ e ∙ ap (λ (m : ℕ). bytes m n) k in
    let tail : drop (suc j) (bytes w v) ≡ bytes (w - (j + 1)) (n / 256) = cc in
    (cc, ap (λ (m : ℕ). drop m (bytes w v)) (add-one j) ∙ tail)

-- a copy of all of s is s written
pub paste_all : (d : List ℕ) (at : ℕ) (s : List ℕ) → paste d at s (length s) ≡ written d at s
unfolding written
paste_all d at s = rw take-length (append_assoc (take at d) s (drop (at + length s) d))

pub length_written : (d : List ℕ) (at : ℕ) (s : List ℕ) → at + length s ≤ length d → length (written d at s) ≡ length d
unfolding written
length_written d at s h =
    let l : at ≤ length d = omega arith in
    simp (length-append, length-drop, length-take-le at d l) (omega arith)

-- what is written after s belongs to what is written from its place on
pub written_more : (d : List ℕ) (at : ℕ) (s t : List ℕ) → at + length s ≤ length d
    → written (written d at s) (at + length s) t ≡ written d at (s ++ t)
unfolding written
written_more d at s t h =
    let p : List ℕ = take at d ++ s in
    let q : List ℕ = drop (at + length s) d in
    let e : take at d ++ (s ++ q) ≡ p ++ q = sym (append_assoc (take at d) s q) in
    let n : length p ≡ at + length s = length-append (take at d) s ∙ ap (λ (k : ℕ). k + length s) (length-take-le at d (omega arith)) in
    let m : at + length s + length t ≡ at + length (s ++ t) = omega (arith, length-append s t) in
    let rest : drop (at + length s + length t) (p ++ q) ≡ drop (at + length (s ++ t)) d =
    ap (λ (k : ℕ). drop (k + length t) (p ++ q)) (sym n) ∙ drop-append-add p q (length t) ∙ drop-drop (length t) (at + length s) d
    ∙ ap (λ (k : ℕ). drop k d) m in
    rw (e, take_at p q (at + length s) n, rest) (rw (append_assoc, append_assoc))

-- a turn of the loop that writes v in w bytes
pub paste_more : (d : List ℕ) (at w v j x : ℕ) → at + w ≤ length d → j < w → get_or (bytes w v) j 0 ≡ x
    → set (paste d at (bytes w v) j) (at + j) x ≡ paste d at (bytes w v) (j + 1)
paste_more d at w v j x h l e =
    let inside : at + j < length d = omega arith in
    let short : j < length (bytes w v) = rw (length_bytes w v) l in
    subst (λ (y : ℕ). set (paste d at (bytes w v) j) (at + j) y ≡ paste d at (bytes w v) (j + 1)) e
    (paste-suc d at (bytes w v) j 0 inside short ∙ ap (paste d at (bytes w v)) (sym (add-one j)))

-- a row of one field
pub row_last : (d : List ℕ) (at k n : ℕ) → written d at (bytes k n) ≡ written d at (row ((k, n) ∷ []))
unfolding row
row_last d at k n = ap (written d at) (sym (append-nil (bytes k n)))

-- two rows, one after the other
row_join : (fs gs : List (ℕ × ℕ)) → row fs ++ row gs ≡ row (fs ++ gs)
unfolding row
row_join [] gs = refl
row_join (f ∷ fs) gs = append_assoc (bytes f.0 f.1) (row fs) (row gs) ∙ ap (λ (r : List ℕ). bytes f.0 f.1 ++ r) (row_join fs gs)

pub rows : (d e : List ℕ) (at o : ℕ) (fs gs : List (ℕ × ℕ)) → e ≡ written d at (row fs) → o ≡ at + widths fs → at + widths fs ≤ length d
    → written e o (row gs) ≡ written d at (row (fs ++ gs))
rows d e at o fs gs p q h =
    let m : o ≡ at + length (row fs) = omega (arith, length_row fs) in
    rw (p, m) (written_more d at (row fs) (row gs) (omega (arith, length_row fs)) ∙ ap (written d at) (row_join fs gs))

-- a field after a row
pub row_next : (d e f : List ℕ) (at o k n : ℕ) (fs : List (ℕ × ℕ)) → e ≡ written d at (row fs) → f ≡ written e o (bytes k n)
    → o ≡ at + widths fs → at + widths fs ≤ length d
    → f ≡ written d at (row (fs ++ ((k, n) ∷ [])))
row_next d e f at o k n fs p q m h = q ∙ row_last e o k n ∙ rows d e at o fs ((k, n) ∷ []) p m h

-- five fields one after another
pub row_five : (d a b c e f : List ℕ) (at k m n o p : ℕ) (v w x y z : ℕ)
    → a ≡ written d at (bytes k v)
    → b ≡ written a (at + k) (bytes m w)
    → c ≡ written b (at + (k + m)) (bytes n x)
    → e ≡ written c (at + (k + m + n)) (bytes o y)
    → f ≡ written e (at + (k + m + n + o)) (bytes p z)
    → at + (k + m + n + o + p) ≤ length d
    → f ≡ written d at (row ((k, v) ∷ (m, w) ∷ (n, x) ∷ (o, y) ∷ (p, z) ∷ []))
row_five d a b c e f at k m n o p v w x y z h₁ h₂ h₃ h₄ h₅ fits =
    let f₁ : List (ℕ × ℕ) = (k, v) ∷ [] in
    let f₂ : List (ℕ × ℕ) = f₁ ++ ((m, w) ∷ []) in
    let f₃ : List (ℕ × ℕ) = f₂ ++ ((n, x) ∷ []) in
    let f₄ : List (ℕ × ℕ) = f₃ ++ ((o, y) ∷ []) in
    let r₁ = h₁ ∙ row_last d at k v in
    let r₂ = row_next d a b at (at + k) m w f₁ r₁ h₂ (omega arith) (omega arith) in
    let r₃ = row_next d b c at (at + (k + m)) n x f₂ r₂ h₃ (omega arith) (omega arith) in
    let r₄ = row_next d c e at (at + (k + m + n)) o y f₃ r₃ h₄ (omega arith) (omega arith) in
    row_next d e f at (at + (k + m + n + o)) p z f₄ r₄ h₅ (omega arith) (omega arith)
