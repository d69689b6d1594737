-- Every file (01, demand 2): what is proved of what `publish` leaves wherever it answers a length.
use Rattle.std.specs.Prelude.{List, ◌≡◌, ℕ, ◌≤◌, ◌<◌, length, take, Ok}
use Rattle.base.specs.Lists.{sum}
use Rattle.rules.specs.declared.Head.{Head}
use Rattle.rules.specs.declared.Span.{Span}
use Rattle.rules.specs.Opening.{Cells, slot_count}
use Rattle.rules.specs.Spans.{start, slots_in, R, span_of, outcome_at}
use Rattle.book.specs.Cells.{Book}
use Rattle.file.specs.Layout.{Content, figures_of, tables_of}
use Rattle.file.specs.Reader.{read_file, tables_part}
use Rattle.file.specs.Contents.{slot, span, content_of}
use Rattle.publishing.specs.Publishing.{published, publish_answer, publish_after}

-- the values that a content has for the slots of a span sum to R, which lies between the two ends of the span's record (02, W10)
pub record SumsToR (h : Head) (b : Cells) (f : Content) (s : Span) : Type 0 where
  pub sums : sum (λ i. (slot f i).value) (start h b s.first s.last) (slots_in h b s.first s.last) ≡ R h b s.first s.last
  pub lowest : s.lowest ≤ R h b s.first s.last
  pub highest : R h b s.first s.last ≤ s.highest

-- what the reader answers of a file of n bytes, and what its content is
pub record ReadsBack (h : Head) (b : Cells) (n : ℕ) (file : List ℕ) : Type 0 where
  pub long : length file ≡ n
  -- 1. `read` accepts it, with the figures of what the book publishes, counts and sum included
  pub accepted : read_file file ≡ Ok (figures_of (published h b))
  -- 2. `tables` hands back their tables
  pub tables : tables_part file ≡ tables_of (published h b)
  -- 3. the content that these two answers hold is what the book publishes
  pub content : content_of (figures_of (published h b)) (tables_part file) ≡ published h b
  -- 4. N slots, each with its outcome, and each span with its own
  pub slots : length (published h b).slots ≡ slot_count h
  pub each_slot : (i : ℕ) → i < slot_count h → slot (published h b) i ≡ outcome_at h b i
  pub each_span : (j : ℕ) → j < length (published h b).spans
      → span (published h b) j ≡ span_of h b (span (published h b) j).first (span (published h b) j).last
  -- 5. a scaled span sums to the dial's advance
  pub scaled : (j : ℕ) → j < length (published h b).spans → (span (published h b) j).state ≡ 1
      → SumsToR h b (published h b) (span (published h b) j)

-- where `publish` answers a length n, the first n bytes that it leaves are such a file; proved by `every_file`
abbrev pub EveryFile : Type 0
EveryFile =
    (h : Head) (b : Book) (out : List ℕ) (n : ℕ) → publish_answer h b out ≡ Ok n
    → ReadsBack h b.cells n (take n (publish_after h b out))
