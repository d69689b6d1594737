-- 01's whole case and days like it, in the bytes of a file: `WholeCase`, proved by `whole_case`, which computes it.
use Rattle.base.specs.declared.Refusal.TheVariants.{WrongContent}
use Rattle.base.specs.declared.Refusal.{Refusal}
use Rattle.std.specs.Prelude.{◌≡◌, ℕ, List, [], ◌∷◌, ◌++◌, replicate, Result, Ok, Err}
use Rattle.rules.specs.declared.Outcome.{Outcome}
use Rattle.rules.specs.declared.Quality.TheVariants.{A, S, F}
use Rattle.rules.specs.declared.Span.{Span}
use Rattle.file.specs.Layout.{Content, row, trailer_row, figures_of, file_of}
use Rattle.file.specs.declared.Figures.{Figures}
use Rattle.file.specs.Reader.{read_file}

-- 2024-05-01, day 8,887, in a layout, with spans; all slots but slot 10 are delivered
abbrev pub day_with : ℕ → Outcome → List Span → Content
day_with layout tenth spans =
    let delivered : Outcome = record { value = 100; quality = A; method = 0 } in
    record {
      layout = layout;
      first = 8887;
      days = 1;
      interval = 30;
      slots = replicate 10 delivered ++ (tenth ∷ replicate 37 delivered);
      spans = spans;
    }

-- slot 10 is filled; agreed (02, W1); scaled
abbrev pub filled : Outcome
filled = record { value = 100; quality = S; method = 2 }

abbrev pub agreed : Outcome
agreed = record { value = 99_999_999; quality = F; method = 5 }

abbrev pub scaled : Outcome
scaled = record { value = 100; quality = S; method = 18 }

-- the day is one span, scaled to a range
abbrev pub scaled_day : Span
scaled_day = record { first = 0; last = 1; lowest = 4790; highest = 4800; state = 1 }

-- the reader accepts such a day, with these figures
abbrev pub accepted : ℕ → ℕ → ℕ → Result Figures Refusal
accepted layout spans sum =
    Ok (record {
      first = 8887;
      days = 1;
      interval = 30;
      spans = spans;
      actual = 47;
      substituted = 1;
      none = 0;
      sum = sum;
      layout = layout;
    })

pub record WholeCase : Type 0 where
  pub trailer : row (trailer_row (figures_of (day_with 3 filled []))) ≡
      0xB7 ∷ 0x22 ∷ 0x01 ∷ 0x00 ∷ 0x1E ∷ 0x03 ∷ 0x00 ∷ 0x00 ∷ 0x2F ∷ 0x00 ∷ 0x00 ∷ 0x00 ∷ 0x01 ∷ 0x00 ∷ 0x00 ∷ 0x00
      ∷ 0x00 ∷ 0x00 ∷ 0x00 ∷ 0x00 ∷ 0xC0 ∷ 0x12 ∷ 0x00 ∷ 0x00 ∷ 0x00 ∷ 0x00 ∷ 0x00 ∷ 0x00 ∷ 0x00 ∷ 0x00 ∷ 0x00 ∷ 0x00 ∷ []
  pub whole : read_file (file_of (day_with 3 filled [])) ≡ accepted 3 0 4800
  -- an F counts with S, and goes with layout 2 and not with layout 1 (02, W1)
  pub in_two : read_file (file_of (day_with 2 agreed [])) ≡ accepted 2 0 100_004_699
  pub in_one : read_file (file_of (day_with 1 agreed [])) ≡ Err WrongContent
  -- a scaled span's sum lies between lowest and highest (02, W10)
  pub ranged : read_file (file_of (day_with 3 scaled (scaled_day ∷ []))) ≡ accepted 3 1 4800
