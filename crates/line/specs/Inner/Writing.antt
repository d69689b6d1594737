-- What the functions that put bytes into a buffer leave in it.
use Rattle.std.specs.Prelude.{cond, List, ◌≡◌, ℕ, ◌+◌, ◌^◌, ◌<◌, ltb, length}
use Rattle.std.proofs.lemmas.List.Edits.{sets}

-- a place, at most the highest number of 64 bits
unfoldable pub capped : ℕ → ℕ
capped n = cond (ltb n 18_446_744_073_709_551_615) n 18_446_744_073_709_551_615

-- a buffer after s is stored from place at on, as far as the buffer reaches
unfoldable pub stored : List ℕ → ℕ → List ℕ → List ℕ
stored d at s = sets d at s

-- a text was put from place at on, and the next place is r
pub record Added (before : List ℕ) (at : ℕ) (after : List ℕ) (r : ℕ) (text : List ℕ) : Type 0 where
  pub fits : length before < 2 ^ 64
  pub next : r ≡ capped (at + length text)
  pub has : after ≡ stored before at text
