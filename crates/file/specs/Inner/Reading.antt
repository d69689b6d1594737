-- What the functions of the reader know of a file.
use Rattle.std.specs.Prelude.{◌≡◌, Bool, true, false, cond, ◌&&◌, ◌||◌, List, [], ◌∷◌, ℕ, ◌+◌, ◌*◌, ◌^◌, ◌≤◌, eqb, leb, length}
use Rattle.base.specs.Numbers.{eight_digits}
use Rattle.base.specs.Lists.{sum, all, any, every, count}
use Rattle.rules.specs.declared.Quality.{Quality}
use Rattle.rules.specs.declared.Quality.TheVariants.{A, S, F, N}
use Rattle.rules.specs.Numbers.{most_days}
use Rattle.file.specs.declared.Figures.{Figures}
use Rattle.file.specs.declared.counting.Counted.{Counted}
use Rattle.file.specs.declared.slots.SlotRecord.{SlotRecord}
use Rattle.file.specs.declared.slots.Tally.{Tally}
use Rattle.file.specs.Layout.{slot_width, span_table_bytes, trailer_width}
use Rattle.file.specs.Reader.{slot_at, head_field_tests, file_slots, of_quality, is_form, record_ok, scaled, unscaled, layout_fits}

-- (A,0)
abbrev pub is_plain : SlotRecord → Bool
is_plain r = is_form A 0 r

-- (A,0) or (F,5)
abbrev pub is_kindless : SlotRecord → Bool
is_kindless r = is_plain r || is_form F 5 r

-- the kinds found and the sum with one slot more
abbrev pub tallied_with : Tally → SlotRecord → Tally
tallied_with t r = record {
  none = t.none || of_quality N r;
  scaled = t.scaled || scaled r;
  unscaled = t.unscaled || unscaled r;
  substituted = t.substituted || of_quality S r;
  sum = t.sum + r.value;
}

-- which kinds of slots the k from a have, and their sum
unfoldable pub tallied_in : List ℕ → ℕ → ℕ → Tally
tallied_in bs a k = record {
  none = any (λ i. of_quality N (slot_at bs i)) a k;
  scaled = any (λ i. scaled (slot_at bs i)) a k;
  unscaled = any (λ i. unscaled (slot_at bs i)) a k;
  substituted = any (λ i. of_quality S (slot_at bs i)) a k;
  sum = sum (λ i. (slot_at bs i).value) a k;
}

-- 1 for a record of a quality
abbrev pub one : Quality → SlotRecord → ℕ
one q r = cond (of_quality q r) 1 0

-- (A,1), or a record of no form: not (A,0), nor of another letter of a quality
pub record IsRest (r : SlotRecord) : Type 0 where
  pub plain : is_plain r ≡ false
  pub none : r.letter ≡ 78 → ⊥
  pub substituted : r.letter ≡ 83 → ⊥
  pub agreed : r.letter ≡ 70 → ⊥

-- what the slots so far have: forms, counts and sum
pub record Met : Type 0 where
  pub formed : Bool
  pub actual : ℕ
  pub substituted : ℕ
  pub agreed : ℕ
  pub none : ℕ
  pub sum : ℕ

-- the highest value of an F stands for them all
abbrev pub met_by : Counted → Met
met_by c = record {
  formed = c.formed && leb c.highest eight_digits;
  actual = c.actual;
  substituted = c.substituted;
  agreed = c.agreed;
  none = c.none;
  sum = c.sum;
}

-- with one slot more; F counts with S and by itself
abbrev pub counted_with : Met → SlotRecord → Met
counted_with m r = record {
  formed = m.formed && record_ok r;
  actual = m.actual + one A r;
  substituted = m.substituted + (one S r + one F r);
  agreed = m.agreed + one F r;
  none = m.none + one N r;
  sum = m.sum + r.value;
}

-- how many of the first k slots are of a quality
abbrev pub count_in : List ℕ → Quality → ℕ → ℕ
count_in bs q k = count (λ i. of_quality q (slot_at bs i)) 0 k

-- what the first k slots have
unfoldable pub counted_in : List ℕ → ℕ → Met
counted_in bs k = record {
  formed = all (λ i. record_ok (slot_at bs i)) 0 k;
  actual = count_in bs A k;
  substituted = count_in bs S k + count_in bs F k;
  agreed = count_in bs F k;
  none = count_in bs N k;
  sum = sum (λ i. (slot_at bs i).value) 0 k;
}

-- counts and a sum of at most k slots
pub record Within (k : ℕ) (m : Met) : Type 0 where
  pub actual : m.actual ≤ k
  pub substituted : m.substituted ≤ 2 * k
  pub agreed : m.agreed ≤ k
  pub none : m.none ≤ k
  pub sum : m.sum ≤ 2 ^ 32 * k

-- the figures are those of the slots
abbrev pub count_tests : Met → Figures → List Bool
count_tests m g =
    eqb m.actual g.actual
    ∷ eqb m.substituted g.substituted
    ∷ eqb m.none g.none
    ∷ layout_fits g.layout m.agreed
    ∷ eqb m.sum g.sum
    ∷ []

-- a file that is not refused with 8
pub record Ready (bs : List ℕ) (g : Figures) : Type 0 where
  pub head : every (head_field_tests g.first g.days g.interval) ≡ true
  pub long : length bs ≡ slot_width * file_slots g + span_table_bytes g + trailer_width

-- a slot table of so many days of n slots
pub record Tabled (bs : List ℕ) (n days : ℕ) : Type 0 where
  pub long : slot_width * (n * days) ≤ length bs
  pub some : 1 ≤ n
  pub day : n ≤ 288
  pub few : days ≤ most_days
