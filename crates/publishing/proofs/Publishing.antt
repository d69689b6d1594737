-- What publishing knows once it refuses nothing.
use Rattle.base.specs.declared.Refusal.TheVariants.{OutsideBounds, WrongLength, ShortBuffer, ImpossibleCell}
use Rattle.base.specs.declared.Refusal.{Refusal}
use Rattle.std.specs.Prelude.{Result, Ok, Err}
use mathlib.Core.Bool.{Bool, true, false, not, ◌||◌, false≢true}
use mathlib.Core.Logic.{⊎_elim}
use mathlib.Core.List.{List, [], ◌∷◌, ◌++◌}
use mathlib.Core.Path.{◌≡◌, refl, sym, ◌∙◌}
use Prim.Native.Nat.{ℕ, suc, ◌+◌, ◌-◌, ◌*◌, ◌≤◌, ◌<◌, zero-le}
use native.Mathlib.Nat.{zero-add}
use native.Mathlib.Omega.{arith}
use borrow.Author.Tests.{ltb-true, ltb-false, lt-ltb, le-ltb, not-true}
use lib.Dec.{ltb}
use lib.ListN.{length, get_or, drop, get_or-eq_default}
use Rattle.base.specs.Lists.{any}
use Rattle.base.proofs.Lists.{length_up_to}
use Rattle.base.proofs.Logic.{passed, either}
use Rattle.base.proofs.Sums.{any_some}
use Rattle.rules.specs.declared.Head.{Head}
use Rattle.rules.specs.Opening.{Cells, head_ok, slot_count}
use Rattle.rules.specs.Spans.{outcome_at, outcomes, spans}
use Rattle.rules.specs.Inner.Lent.{AgreedLow, WidthsLow, Whole}
use Rattle.rules.specs.Inner.Stretches.{read_count}
use Rattle.rules.proofs.Bounds.{bounded}
use Rattle.rules.proofs.Counts.{span_count_lem}
use Rattle.rules.proofs.Neighbours.{spans_few}
use Rattle.book.specs.Cells.{slot_fault_at, day_fault_at, number_fault, read_fault, read_fault_at, agreed_fault_at, reads_of, cells_ok}
use Rattle.book.specs.Cells.{Book, book_fits}
use Rattle.book.specs.Cells.{book_ok}
use Rattle.book.proofs.Fits.{lengths_of}
use Rattle.publishing.specs.Publishing.{published, file_length, publish_answer, publish_after}
use Rattle.file.specs.Layout.{file_of}
use Rattle.publishing.specs.Inner.Publishing.{Sound, Put, Left}

-- a number that is no fault is within its limit
number_low : (limit version number : ℕ) → number_fault limit version number ≡ false → number ≤ limit
unfolding number_fault
number_low limit version number e =
    ⊎_elim (λ t. absurd (false≢true (sym e ∙ (rw t)))) (λ t. ltb-false limit number t) (either (ltb limit number))

-- a read that is no fault is none by its reading and none by its width
neither : (a b : Bool) → (a || b) ≡ false → (a ≡ false) × (b ≡ false)
neither true b e = absurd (false≢true (sym e))
neither false b e = (refl, e)

-- numbers within a limit at the first n places of a list are so at every place, where it is n long
module _ (numbers : List ℕ) (n limit : ℕ) (long : length numbers ≡ n) (fault_at : ℕ → Bool)
    (low : (i : ℕ) → fault_at i ≡ false → get_or numbers i 0 ≤ limit) where
  all_low : any fault_at 0 n ≡ false → (i : ℕ) → get_or numbers i 0 ≤ limit
  all_low none i =
      ⊎_elim inside
      (λ t. rw (get_or-eq_default numbers 0 {n = i} (omega (arith, long, ltb-false i n t))) zero-le)
      (either (ltb i n))
    where
      inside : ltb i n ≡ true → get_or numbers i 0 ≤ limit
      inside t =
          ⊎_elim (λ bad. absurd (false≢true (sym none ∙ any_some fault_at 0 n i zero-le (rw zero-add (ltb-true i n t)) bad)))
          (low i) (either (fault_at i))

module _ (h : Head) (b : Cells) (s : Sound h b) where
  abbrev cell_tests : List Bool
  cell_tests =
      not (any (slot_fault_at b.slots) 0 (slot_count h)) ∷ not (any (day_fault_at b.holidays) 0 h.days)
      ∷ not (any (read_fault_at (reads_of b)) 0 (suc h.days)) ∷ not (any (agreed_fault_at b.agreed) 0 (slot_count h)) ∷ []

  read_clean : (i : ℕ) → read_fault_at (reads_of b) i ≡ false
      → (number_fault 99_999_999 (get_or b.read_versions i 0) (get_or b.readings i 0) ≡ false)
      × (number_fault 9999 (get_or b.read_versions i 0) (get_or b.widths i 0) ≡ false)
  unfolding read_fault
  read_clean i e = neither _ _ e

  readings_low : (d : ℕ) → get_or b.readings d 0 < 100_000_000
  unfolding cells_ok
  readings_low d =
      let le =
      all_low b.readings (suc h.days) 99_999_999 (lengths_of h b s.fit).readings (read_fault_at (reads_of b))
      (λ i e. number_low 99_999_999 (get_or b.read_versions i 0) (get_or b.readings i 0) (read_clean i e).0)
      (not-true _ (passed cell_tests s.cells 2)) d in
      omega arith

  pub widths_low : WidthsLow b.widths
  unfolding cells_ok
  widths_low =
      all_low b.widths (suc h.days) 9999 (lengths_of h b s.fit).widths (read_fault_at (reads_of b))
      (λ i e. number_low 9999 (get_or b.read_versions i 0) (get_or b.widths i 0) (read_clean i e).1)
      (not-true _ (passed cell_tests s.cells 2))

  pub agreed_low : AgreedLow b.agreed
  unfolding cells_ok
  agreed_low i =
      let le =
      all_low b.agreed.values (slot_count h) 99_999_999 (lengths_of h b s.fit).agreed (agreed_fault_at b.agreed)
      (λ j e. number_low 99_999_999 (get_or b.agreed.versions j 0) (get_or b.agreed.values j 0) e)
      (not-true _ (passed cell_tests s.cells 3)) i in
      omega arith

  pub whole_of : Whole h b
  whole_of =
      let l = lengths_of h b s.fit in
      record {
        lent =
            record {
              fitted = record { head = s.head; values = l.values; versions = l.versions; statuses = l.statuses };
              holidays = l.holidays;
            };
        dialled = record { length = l.readings; low = readings_low };
        read_versions = l.read_versions;
        settled = record { values = l.agreed; versions = l.agreed_versions; low = agreed_low };
        widths = record { length = l.widths; low = widths_low };
      }

  -- the spans and the length as publishing computes them
  module _ (m : ℕ) (e : m ≡ read_count b.read_versions (length b.read_versions) - 1) where
    pub spans_found : m ≡ length (spans h b)
    spans_found = e ∙ sym (span_count_lem h b (lengths_of h b s.fit).read_versions)

    pub spans_low : m ≤ 400
    spans_low = omega (arith, spans_found, spans_few h b, (bounded h s.head).days_high)

    pub length_found : (n : ℕ) → n ≡ 6 * slot_count h + 14 * m + 32 → n ≡ file_length h b
    unfolding file_length outcomes
    length_found n f = omega (arith, spans_found, length_up_to (outcome_at h b) 0 (slot_count h))

-- each case of the answer, and of the buffer
module _ (h : Head) (b : Book) (d : List ℕ) where
  pub refused_1 : head_ok h ≡ false → Left h b d (Err OutsideBounds) d
  unfolding publish_after publish_answer
  refused_1 p = rw p (refl, refl)

  module _ (good : head_ok h ≡ true) where
    pub refused_2 : book_fits h b ≡ false → Left h b d (Err WrongLength) d
    unfolding publish_after publish_answer
    refused_2 p = rw (good, p) (refl, refl)

    pub refused_11 : book_fits h b ≡ true → book_ok h b ≡ false → Left h b d (Err ImpossibleCell) d
    unfolding publish_after publish_answer
    refused_11 fit p = rw (good, fit, p) (refl, refl)

    pub put_left : book_fits h b ≡ true → book_ok h b ≡ true → (p : Result ℕ Refusal) (e : List ℕ) → Put h b.cells d p e → Left h b d p e
    unfolding publish_after publish_answer
    put_left fit ok p e put = rw (good, fit, ok) put

module _ (h : Head) (b : Cells) (d : List ℕ) (n : ℕ) (found : n ≡ file_length h b) where
  pub refused_7 : length d < n → Put h b d (Err ShortBuffer) d
  refused_7 p = rw (lt-ltb (length d) (file_length h b) (rw found at p)) (refl, refl)

  pub long_enough : n ≤ length d → (e : List ℕ) → e ≡ file_of (published h b) ++ drop (file_length h b) d → Put h b d (Ok n) e
  long_enough p e q = rw (le-ltb (length d) (file_length h b) (rw found at p), found) (refl, q)
