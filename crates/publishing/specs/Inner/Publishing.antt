-- What the functions that publish know between two slots.
use Rattle.base.specs.declared.Refusal.TheVariants.{ShortBuffer}
use Rattle.base.specs.declared.Refusal.{Refusal}
use Rattle.std.specs.Prelude.{Bool, true, ◌≡◌, List, [], ◌∷◌, ℕ, zero, suc, ◌+◌, ◌-◌, ◌*◌, ◌≤◌, ◌<◌, ltb, length, Result}
use Rattle.base.specs.Lists.{up_to}
use Rattle.base.specs.Refusals.{answered}
use Rattle.base.specs.Refusals.Rule.{rule}
use Rattle.rules.specs.declared.Head.{Head}
use Rattle.rules.specs.declared.Outcome.{Outcome}
use Rattle.rules.specs.declared.Span.{Span}
use Rattle.rules.specs.Opening.{Slots, Agreed, Cells, head_ok, slot_count}
use Rattle.rules.specs.Numbers.{most_slots}
use Rattle.rules.specs.Spans.{is_a, is_s, is_f, is_n, outcome_at, spans}
use Rattle.rules.specs.Inner.Lent.{Whole}
use Rattle.rules.specs.Inner.Stretches.{stretch_at}
use Rattle.rules.specs.Inner.Walks.{walk_at, direct_at, direct_of, DirectFrom, DirectTo}
use Rattle.rules.specs.Inner.Passes.{pass_at, begun_before}
use Rattle.book.specs.Cells.{Book, cells_fit, cells_ok}
use Rattle.publishing.specs.declared.tables.Totals.{Totals}
use Rattle.publishing.specs.declared.tables.Progress.{Progress}
use Rattle.publishing.specs.declared.tables.DirectPut.{DirectPut}
use Rattle.file.specs.Layout.{one, total, table, slot_row, span_row}
use Rattle.publishing.specs.Publishing.{published, file_length, publish_answer, bytes_after, publish_after}
use Rattle.file.specs.Inner.Writing.{written}

-- the counts of each quality and the sum of a list of outcomes
unfoldable pub totals_of : List Outcome → Totals
totals_of os = record {
  actual = total (one is_a) os;
  substituted = total (one is_s) os;
  agreed = total (one is_f) os;
  none = total (one is_n) os;
  sum = total (λ o. o.value) os;
}

-- one outcome more
unfoldable pub added_to : Totals → Outcome → Totals
added_to t o = record {
  actual = t.actual + one is_a o;
  substituted = t.substituted + one is_s o;
  agreed = t.agreed + one is_f o;
  none = t.none + one is_n o;
  sum = t.sum + o.value;
}

-- totals that one slot more keeps in their numbers
pub record Countable (t : Totals) : Type 0 where
  pub actual : t.actual ≤ most_slots
  pub substituted : t.substituted ≤ most_slots
  pub agreed : t.agreed ≤ most_slots
  pub none : t.none ≤ most_slots
  pub sum : t.sum ≤ 11_520_000_000_000

-- the totals with the k direct slots from slot `from`
unfoldable pub direct_totals : Head → Slots → Agreed → Totals → ℕ → ℕ → Totals
direct_totals h s a t from zero = t
direct_totals h s a t from (suc k) = added_to (direct_totals h s a t from k) (direct_of h s a (from + k))

-- their records
abbrev pub direct_records : Head → Slots → Agreed → ℕ → ℕ → List ℕ
direct_records h s a from k = table slot_row (up_to (direct_of h s a) from k)

-- the outcomes of the first i slots
abbrev pub first_slots : Head → Cells → ℕ → List Outcome
first_slots h b i = up_to (outcome_at h b) 0 i

unfoldable pub progress_at : Head → Cells → ℕ → Progress
progress_at h b i =
    record { pass = pass_at h b i; spans = length (begun_before h b i); totals = totals_of (first_slots h b i) }

-- a buffer d with the records of these slots and these spans
unfoldable pub buffer_of : Head → List ℕ → List Outcome → List Span → List ℕ
buffer_of h d os ss = written (written d 0 (table slot_row os)) (6 * slot_count h) (table (span_row true) ss)

-- of the first i slots, and of the spans that begin at them
unfoldable pub buffer_at : Head → Cells → List ℕ → ℕ → List ℕ
buffer_at h b d i = buffer_of h d (first_slots h b i) (begun_before h b i)

-- of the first i slots, and of the spans that begin at the first k
unfoldable pub buffer_in : Head → Cells → List ℕ → ℕ → ℕ → List ℕ
buffer_in h b d i k = buffer_of h d (first_slots h b i) (begun_before h b k)

-- cells that publishing refuses for a short buffer alone
pub record Sound (h : Head) (b : Cells) : Type 0 where
  pub head : head_ok h ≡ true
  pub fit : cells_fit h b ≡ true
  pub cells : cells_ok h b ≡ true

-- what publishing them answers, and leaves of a buffer d
abbrev pub put_answer : Head → Cells → List ℕ → Result ℕ Refusal
put_answer h b d = answered (rule ShortBuffer (ltb (length d) (file_length h b)) ∷ []) (file_length h b)

abbrev pub Put : Head → Cells → List ℕ → Result ℕ Refusal → List ℕ → Type 0
Put h b d p e = (p ≡ put_answer h b d) × (e ≡ bytes_after (put_answer h b d) (published h b) d)

-- the same of publishing any lists
abbrev pub Left : Head → Book → List ℕ → Result ℕ Refusal → List ℕ → Type 0
Left h b d p e = (p ≡ publish_answer h b d) × (e ≡ publish_after h b d)

-- such cells, and room for the file
pub record Roomy (h : Head) (b : Cells) (d : List ℕ) : Type 0 where
  pub whole : Whole h b
  pub room : 6 * slot_count h + 14 * length (spans h b) + 32 ≤ length d

-- before slot `pass.walk.at`, with the span table from byte `table` on
pub record Next (h : Head) (b : Cells) (d : List ℕ) (table : ℕ) (here : Progress) : Type 0 where
  pub roomy : Roomy h b d
  pub place : table ≡ 6 * slot_count h
  pub inside : here.pass.walk.at < slot_count h
  pub known : here ≡ progress_at h b here.pass.walk.at

-- room for the records up to slot `to`, and totals that stay in their numbers as long as slots are direct
pub record PutFrom (h : Head) (s : Slots) (a : Agreed) (d : List ℕ) (from to : ℕ) (before : Bool) (t : Totals) : Type 0 where
  pub direct : DirectFrom h s a from to before
  pub room : 6 * to ≤ length d
  pub countable : (k : ℕ) → from + k ≤ to → ((i : ℕ) → i < from + k → from ≤ i → direct_at h s a i ≡ true)
      → Countable (direct_totals h s a t from k)

-- the records of the direct slots are written
pub record PutTo (h : Head) (s : Slots) (a : Agreed) (d e : List ℕ) (from to : ℕ) (t : Totals) (r : DirectPut) : Type 0 where
  pub direct : DirectTo h s a from to r.end r.outage
  pub totals : r.totals ≡ direct_totals h s a t from (r.end - from)
  pub bytes : e ≡ written d (6 * from) (direct_records h s a from (r.end - from))

-- before a slot, with the stretch that it lies in
pub record Entering (h : Head) (b : Cells) (d : List ℕ) (here : Progress) : Type 0 where
  pub roomy : Roomy h b d
  pub inside : here.pass.walk.at < slot_count h
  pub walk : here.pass.walk ≡ walk_at h b.slots b.agreed.versions here.pass.walk.at
  pub stretch : here.pass.stretch ≡ stretch_at h b here.pass.walk.at
  pub totals : here.totals ≡ totals_of (first_slots h b here.pass.walk.at)

-- behind its last slot: the records of its slots are written, in a buffer that held those of the slots before and of the spans begun
pub record PutInside (h : Head) (b : Cells) (d e : List ℕ) (here next : Progress) : Type 0 where
  pub further : here.pass.walk.at < next.pass.walk.at
  pub inside : next.pass.walk.at ≤ slot_count h
  pub pass : next.pass ≡ pass_at h b next.pass.walk.at
  pub spans : next.spans ≡ here.spans
  pub begun : begun_before h b next.pass.walk.at ≡ begun_before h b (here.pass.walk.at + 1)
  pub totals : next.totals ≡ totals_of (first_slots h b next.pass.walk.at)
  pub bytes : (x : List ℕ) → length x ≡ length d → d ≡ buffer_in h b x here.pass.walk.at (here.pass.walk.at + 1)
      → e ≡ buffer_in h b x next.pass.walk.at (here.pass.walk.at + 1)

-- some slots on, in a buffer that held the records of the slots and spans before
pub record PutStretch (h : Head) (b : Cells) (d e : List ℕ) (here next : Progress) : Type 0 where
  pub further : here.pass.walk.at < next.pass.walk.at
  pub inside : next.pass.walk.at ≤ slot_count h
  pub known : next ≡ progress_at h b next.pass.walk.at
  pub bytes : (x : List ℕ) → length x ≡ length d → d ≡ buffer_at h b x here.pass.walk.at → e ≡ buffer_at h b x next.pass.walk.at
