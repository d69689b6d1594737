-- What is proved of exports (02, W8).
use Rattle.std.specs.Prelude.{Ok}
use Rattle.std.specs.Prelude.{true, List, ◌↔◌, ◌≡◌, ℕ, ◌+◌, ◌*◌, ◌/◌, ◌≤◌, ◌<◌, take}
use Rattle.rules.specs.Numbers.{day_minutes}
use Rattle.file.specs.Contents.{Bytes}
use Rattle.market.specs.declared.Codes.{Codes}
use Rattle.market.specs.declared.marks.Mark.{Mark}
use Rattle.market.specs.Fields.{Texts, ends_run, start_of}
use Rattle.market.specs.Export.{Content, content_of, export_answer, export_after}

-- ---- "two exports with equal texts and method codes agree exactly when first day, D, L and each slot's value and written quality
-- and method do"

-- first day, D, L, and each slot's value, written quality and written method
pub record SameContent (c d : Content) : Type 0 where
  pub first : c.first ≡ d.first
  pub days : c.days ≡ d.days
  pub interval : c.interval ≡ d.interval
  pub values : (i : ℕ) → i < day_minutes / c.interval * c.days → c.value i ≡ d.value i
  pub qualities : (i : ℕ) → i < day_minutes / c.interval * c.days → (c.mark i).letter ≡ (d.mark i).letter
  pub methods : (i : ℕ) → i < day_minutes / c.interval * c.days → (c.mark i).code ≡ (d.mark i).code

-- two calls that answer a length leave equal lengths and equal bytes up to it exactly when this is so; proved by `equal_exactly`
abbrev pub EqualExactly : Type 0
EqualExactly =
    (bs cs : List ℕ) → Bytes bs → Bytes cs → (t : Texts) (codes : Codes) (out other : List ℕ) (m n : ℕ)
    → export_answer bs t codes out ≡ Ok m → export_answer cs t codes other ≡ Ok n
    → ((m ≡ n) × (take m (export_after bs t codes out) ≡ take n (export_after cs t codes other)))
    ↔ SameContent (content_of codes bs) (content_of codes cs)

-- ---- "a 400 for each longest run alike in both"

-- of the n slots of a day, from slot a on, `runs` writes a 400 for those from s to e
pub record HasRecord (mark : ℕ → Mark) (a n s e : ℕ) : Type 0 where
  pub inside : e < n
  pub ends : ends_run mark a n e ≡ true
  pub starts : start_of mark a n e ≡ s

-- and slot i is one of them
abbrev pub Holds : (ℕ → Mark) → ℕ → ℕ → ℕ → ℕ → ℕ → Type 0
Holds mark a n s e i = HasRecord mark a n s e × (s ≤ i) × (i ≤ e)

-- the slots from s to e are alike in written quality and method
abbrev pub Alike : (ℕ → Mark) → ℕ → ℕ → ℕ → Type 0
Alike mark a s e = (i : ℕ) → s ≤ i → i ≤ e → mark (a + i) ≡ mark (a + s)

pub record Longest (mark : ℕ → Mark) (a n : ℕ) : Type 0 where
  -- each slot stands in one 400, and in one only
  pub covered : (i : ℕ) → i < n → (s : ℕ) × (e : ℕ) × Holds mark a n s e i
  pub once : (i s e t f : ℕ) → Holds mark a n s e i → Holds mark a n t f i → (s ≡ t) × (e ≡ f)
  -- its slots are alike, and no longer run that has them is
  pub alike : (s e : ℕ) → HasRecord mark a n s e → Alike mark a s e
  pub longest : (s e : ℕ) → HasRecord mark a n s e → (t f : ℕ) → t ≤ s → e ≤ f → f < n → Alike mark a t f → (s ≡ t) × (e ≡ f)

-- of every day; proved by `longest_runs`
abbrev pub LongestRuns : Type 0
LongestRuns = (mark : ℕ → Mark) (a n : ℕ) → Longest mark a n
