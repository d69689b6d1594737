-- Runs that are told from their 400s.
use mathlib.Core.Bool.{true, false, cond}
use mathlib.Core.List.{List, [], ◌++◌, append_assoc, append_cancel_left}
use mathlib.Core.Logic.{⊎_elim}
use mathlib.Core.Path.{◌≡◌, sym, ap, subst, ◌∙◌}
use Prim.Native.Nat.{ℕ, zero, suc, ◌+◌, ◌≤◌, ◌<◌}
use native.Mathlib.Nat.{eq-or-lt_of_le}
use native.Mathlib.Omega.{arith}
use Rattle.base.proofs.Logic.{either}
use Rattle.market.specs.declared.marks.Mark.{Mark}
use Rattle.market.specs.Fields.{fields, joined, ends_run, start_of}
use Rattle.market.specs.Records.{record400}
use Rattle.market.proofs.Joining.{start_le}
use Rattle.market.proofs.LongestRuns.{start_after, start_stays, goes_on_lem}
use Rattle.market.proofs.Splits.{Plainly, marked_split, joined_front, joined_nothing, split_ends}

-- what is written at the day's slot j
abbrev pub piece_at : List ℕ → (ℕ → Mark) → ℕ → ℕ → ℕ → List ℕ
piece_at reason mark a n j = cond (ends_run mark a n j) (record400 reason (start_of mark a n j + 1) (j + 1) (mark (a + j))) []

next_le : (i n : ℕ) → i < n → i + 1 ≤ n
next_le i n l = omega arith

module _ (reason : List ℕ) (mark : ℕ → Mark) (a n : ℕ) where
  piece_ends : (j : ℕ) → ends_run mark a n j ≡ true
      → piece_at reason mark a n j ≡ record400 reason (start_of mark a n j + 1) (j + 1) (mark (a + j))
  piece_ends j e = rw e

  piece_goes_on : (j : ℕ) → ends_run mark a n j ≡ false → piece_at reason mark a n j ≡ []
  piece_goes_on j e = rw e

  front : (r : List ℕ) (j k : ℕ)
      → joined (piece_at reason mark a n) j (suc k) ++ r ≡ piece_at reason mark a n j ++ (joined (piece_at reason mark a n) (suc j) k ++ r)
  front r j k =
      ap (λ (x : List ℕ). x ++ r) (joined_front (piece_at reason mark a n) j k)
      ∙ append_assoc (piece_at reason mark a n j) (joined (piece_at reason mark a n) (suc j) k) r

-- the first run that ends at slot i or behind it
record FirstRun (reason text : List ℕ) (i n : ℕ) : Type 0 where
  start : ℕ
  end : ℕ
  mark : Mark
  rest : List ℕ
  begun : start ≤ end
  after : i ≤ end
  before : end < n
  is : text ≡ record400 reason (start + 1) (end + 1) mark ++ rest

first_run : (reason r : List ℕ) (mark : ℕ → Mark) (a n k i : ℕ) → i + k ≡ n → i < n
    → FirstRun reason (joined (piece_at reason mark a n) i k ++ r) i n
first_run reason r mark a n zero i e l = absurd (omega arith)
first_run reason r mark a n (suc k) i e l =
    ⊎_elim
    (λ t. record {
      start = start_of mark a n i;
      end = i;
      mark = mark (a + i);
      rest = joined (piece_at reason mark a n) (suc i) k ++ r;
      begun = start_le mark a n i;
      after = omega arith;
      before = l;
      is =
          front reason mark a n r i k
          ∙ ap (λ (x : List ℕ). x ++ (joined (piece_at reason mark a n) (suc i) k ++ r)) (piece_ends reason mark a n i t);
    })
    (λ f.
    let not_last = (goes_on_lem mark a n i f).1 in
    let inside : suc i < n = ⊎_elim (λ z. absurd (not_last z)) (λ m. omega arith) (eq-or-lt_of_le (next_le i n l)) in
    let next = first_run reason r mark a n k (suc i) (omega arith) inside in
    record {
      start = next.start;
      end = next.end;
      mark = next.mark;
      rest = next.rest;
      begun = next.begun;
      after = omega (arith, next.after);
      before = next.before;
      is =
          front reason mark a n r i k
          ∙ ap (λ (x : List ℕ). x ++ (joined (piece_at reason mark a n) (suc i) k ++ r)) (piece_goes_on reason mark a n i f) ∙ next.is;
    })
    (either (ends_run mark a n i))

-- a run does not end in one day where it goes on in the other
apart : (reason : List ℕ) (mark other : ℕ → Mark) (a n : ℕ) → n ≤ 288 → (j k : ℕ) → j + suc k ≡ n → (r r' : List ℕ)
    → ends_run mark a n j ≡ true → ends_run other a n j ≡ false
    → piece_at reason mark a n j ++ r ≡ piece_at reason other a n j ++ (joined (piece_at reason other a n) (suc j) k ++ r') → ⊥
apart reason mark other a n few j k e r r' t f h =
    let not_last = (goes_on_lem other a n j f).1 in
    let inside : suc j < n = ⊎_elim (λ z. absurd (not_last z)) (λ m. omega arith) (eq-or-lt_of_le (next_le j n (omega arith))) in
    let next = first_run reason r' other a n k (suc j) (omega arith) inside in
    let texts =
    sym (ap (λ (x : List ℕ). x ++ r) (piece_ends reason mark a n j t)) ∙ h
    ∙ ap (λ (x : List ℕ). x ++ (joined (piece_at reason other a n) (suc j) k ++ r')) (piece_goes_on reason other a n j f)
    ∙ next.is in
    let ends =
    (split_ends reason (start_of mark a n j + 1) (next.start + 1) (j + 1) (next.end + 1) (omega (arith, start_le mark a n j))
    (omega (arith, next.begun, next.before)) (omega arith) (omega (arith, next.before)) (mark (a + j)) next.mark r next.rest
    texts).0 in
    omega (arith, ends, next.after)

-- two days' slots from slot j on are alike, and so is what stands behind their runs
abbrev pub AlikeFrom : (mark other : ℕ → Mark) (a n : ℕ) (r r' : List ℕ) → ℕ → Type 0
AlikeFrom mark other a n r r' j = ((i : ℕ) → j ≤ i → i < n → mark (a + i) ≡ other (a + i)) × (r ≡ r')

alike_more : (mark other : ℕ → Mark) (a n : ℕ) (r r' : List ℕ) (j : ℕ) → mark (a + j) ≡ other (a + j)
    → AlikeFrom mark other a n r r' (suc j) → AlikeFrom mark other a n r r' j
alike_more mark other a n r r' j h next =
    (λ i l m. ⊎_elim (λ z. subst (λ (x : ℕ). mark (a + x) ≡ other (a + x)) z h) (λ k. next.0 i k m) (eq-or-lt_of_le l), next.1)

-- one slot more
module _
    (reason : List ℕ) (mark other : ℕ → Mark) (a n : ℕ) (few : n ≤ 288) (p : (j : ℕ) → j < n → Plainly (mark (a + j)))
    (q : (j : ℕ) → j < n → Plainly (other (a + j))) (k j : ℕ) (e : j + suc k ≡ n) (s : start_of mark a n j ≡ start_of other a n j)
    (r r' : List ℕ)
    (flat :
    piece_at reason mark a n j ++ (joined (piece_at reason mark a n) (suc j) k ++ r)
    ≡ piece_at reason other a n j ++ (joined (piece_at reason other a n) (suc j) k ++ r'))
    (onward : start_of mark a n (suc j) ≡ start_of other a n (suc j)
    → joined (piece_at reason mark a n) (suc j) k ++ r ≡ joined (piece_at reason other a n) (suc j) k ++ r'
    → AlikeFrom mark other a n r r' (suc j))
  where
    both_end : ends_run mark a n j ≡ true → ends_run other a n j ≡ true → AlikeFrom mark other a n r r' j
    both_end t u =
        let rest : List ℕ = joined (piece_at reason mark a n) (suc j) k ++ r in
        let rest' : List ℕ = joined (piece_at reason other a n) (suc j) k ++ r' in
        let texts = sym (ap (λ (x : List ℕ). x ++ rest) (piece_ends reason mark a n j t)) ∙ flat
        ∙ ap (λ (x : List ℕ). x ++ rest') (piece_ends reason other a n j u) in
        let here : j < n = omega arith in
        let behind =
        (split_ends reason (start_of mark a n j + 1) (start_of other a n j + 1) (j + 1) (j + 1) (omega (arith, start_le mark a n j))
        (omega (arith, start_le other a n j))
        (omega arith) (omega arith) (mark (a + j)) (other (a + j)) rest rest' texts).1 in
        let marks = marked_split (mark (a + j)) (other (a + j)) (p j here) (q j here) reason (fields [] ++ rest) (fields [] ++ rest')
        behind in
        alike_more mark other a n r r' j marks.0
        (onward (start_after mark a n j t ∙ sym (start_after other a n j u)) (append_cancel_left (fields []) rest rest' marks.1))

    both_go_on : ends_run mark a n j ≡ false → ends_run other a n j ≡ false → AlikeFrom mark other a n r r' j
    both_go_on t u =
        let rest : List ℕ = joined (piece_at reason mark a n) (suc j) k ++ r in
        let rest' : List ℕ = joined (piece_at reason other a n) (suc j) k ++ r' in
        let texts = sym (ap (λ (x : List ℕ). x ++ rest) (piece_goes_on reason mark a n j t)) ∙ flat
        ∙ ap (λ (x : List ℕ). x ++ rest') (piece_goes_on reason other a n j u) in
        let next = onward (start_stays mark a n j t ∙ s ∙ sym (start_stays other a n j u)) texts in
        let one = goes_on_lem mark a n j t in
        let two = goes_on_lem other a n j u in
        let inside : j + 1 < n = ⊎_elim (λ z. absurd (one.1 z)) (λ m. m) (eq-or-lt_of_le (next_le j n (omega arith))) in
        alike_more mark other a n r r' j (one.0 ∙ next.0 (j + 1) (omega arith) inside ∙ sym two.0) next

    run_step : AlikeFrom mark other a n r r' j
    run_step =
        ⊎_elim
        (λ t. ⊎_elim (λ u. both_end t u)
        (λ u. absurd (apart reason mark other a n few j k e (joined (piece_at reason mark a n) (suc j) k ++ r) r' t u flat))
        (either (ends_run other a n j)))
        (λ t. ⊎_elim (λ u. absurd
        (apart reason other mark a n few j k e (joined (piece_at reason other a n) (suc j) k ++ r') r u t (sym flat))) (λ u. both_go_on t u)
        (either (ends_run other a n j)))
        (either (ends_run mark a n j))

-- two days' runs from slot j on
pub runs_split : (reason : List ℕ) (mark other : ℕ → Mark) (a n : ℕ) → n ≤ 288
    → ((j : ℕ) → j < n → Plainly (mark (a + j))) → ((j : ℕ) → j < n → Plainly (other (a + j)))
    → (k j : ℕ) → j + k ≡ n → start_of mark a n j ≡ start_of other a n j → (r r' : List ℕ)
    → joined (piece_at reason mark a n) j k ++ r ≡ joined (piece_at reason other a n) j k ++ r'
    → AlikeFrom mark other a n r r' j
runs_split reason mark other a n few p q zero j e s r r' x =
    (λ i l m. absurd (omega arith), joined_nothing (piece_at reason mark a n) (piece_at reason other a n) j r r' x)
runs_split reason mark other a n few p q (suc k) j e s r r' x =
    run_step reason mark other a n few p q k j e s r r' (sym (front reason mark a n r j k) ∙ x ∙ front reason other a n r' j k)
    (λ starts texts. runs_split reason mark other a n few p q k (suc j) (omega arith) starts r r' texts)
