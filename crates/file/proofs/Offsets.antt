-- Records and trailer by the places that the code reads.
use mathlib.Core.Path.{◌≡◌, ap}
use mathlib.Core.Bool.{true, false}
use mathlib.Core.List.{List}
use Prim.Native.Nat.{ℕ, ◌+◌, ◌*◌, ◌^◌, ◌<◌}
use native.Mathlib.Nat.{add-zero}
use lib.ListN.{get_or}
use Rattle.file.specs.Reader.{num, slot_at, read_span, trailer_at, figures}
use Rattle.file.specs.Contents.{Bytes}
use Rattle.file.proofs.Numbers.{num_one, num_lt}

module _ (bs : List ℕ) where
  -- the first field of a row
  first_at : (k at : ℕ) → num k bs (at + 0) ≡ num k bs at
  first_at k at = ap (num k bs) (add-zero at)

  pub slot_at_lem : (i : ℕ) → slot_at bs i ≡ record {
    value = num 4 bs (6 * i);
    letter = get_or bs (6 * i + 4) 0;
    method = get_or bs
        (6 * i + 5) 0;
  }
  unfolding slot_at
  slot_at_lem i =
      λ k. record { value = first_at 4 (6 * i) k; letter = num_one bs (6 * i + 4) k; method = num_one bs (6 * i + 5) k }

  pub value_lt : Bytes bs → (i : ℕ) → (slot_at bs i).value < 2 ^ 32
  unfolding slot_at
  value_lt b i = num_lt bs b 4 (6 * i + 0)

  pub exact_at : (p : ℕ) → read_span false bs p ≡ record {
    first = num 2 bs p;
    last = num 2 bs (p + 2);
    lowest = num 4 bs (p + 4);
    highest = num 4 bs (p + 4);
    state = get_or bs (p + 8) 0;
    blank = get_or bs (p + 9) 0;
  }
  unfolding read_span
  exact_at p =
      λ k. record {
        first = first_at 2 p k;
        last = num 2 bs (p + 2);
        lowest = num 4 bs (p + 4);
        highest = num 4 bs (p + 4);
        state = num_one bs (p + 8) k;
        blank = num_one bs (p + 9) k;
      }

  pub ranged_at : (p : ℕ) → read_span true bs p ≡ record {
    first = num 2 bs p;
    last = num 2 bs (p + 2);
    lowest = num 4 bs (p + 4);
    highest = num 4 bs (p + 8);
    state = get_or bs (p + 12) 0;
    blank = get_or bs (p + 13) 0;
  }
  unfolding read_span
  ranged_at p =
      λ k. record {
        first = first_at 2 p k;
        last = num 2 bs (p + 2);
        lowest = num 4 bs (p + 4);
        highest = num 4 bs (p + 8);
        state = num_one bs (p + 12) k;
        blank = num_one bs (p + 13) k;
      }

  pub figures_at : figures bs ≡ record {
    first = num 2 bs (trailer_at bs);
    days = num 2 bs (trailer_at bs + 2);
    interval = get_or bs (trailer_at bs + 4) 0;
    spans = num 2 bs (trailer_at bs + 6);
    actual = num 4 bs (trailer_at bs + 8);
    substituted = num 4 bs (trailer_at bs + 12);
    none = num 4 bs (trailer_at bs + 16);
    sum = num 8 bs (trailer_at bs + 20);
    layout = get_or bs (trailer_at bs + 5) 0;
  }
  unfolding figures
  figures_at =
      λ k. record {
        first = first_at 2 (trailer_at bs) k;
        days = (figures bs).days;
        interval = num_one bs (trailer_at bs + 4) k;
        spans = (figures bs).spans;
        actual = (figures bs).actual;
        substituted = (figures bs).substituted;
        none = (figures bs).none;
        sum = (figures bs).sum;
        layout = num_one bs (trailer_at bs + 5) k;
      }
