-- What a host is given of a log, from what checking answers, and of one line.
use Rattle.std.specs.Prelude.{Result}
use mathlib.Core.List.{List}
use mathlib.Core.Path.{◌≡◌, refl}
use Prim.Native.Nat.{ℕ}
use borrow.Author.Tests.{eq-eqb, ne_eqb}
use lib.ListN.{length}
use Rattle.text_log.specs.declared.line.LogLine.{LogLine}
use Rattle.text_log.specs.Line.{entry_of}
use Rattle.play.specs.declared.Log.{Log}
use Rattle.play.specs.declared.NotALog.{NotALog}
use Rattle.play.specs.Playing.{checked}
use Rattle.questions.specs.Logs.{check_code, log_figures, log_code, log_after, line_code, line_fields, one_code, one_fields}

-- a log, with figures of nine places or not
module _ (bytes held : List ℕ) where
  pub other_figures : (length held ≡ 9 → ⊥) → (2 ≡ log_code bytes held) × (held ≡ log_after bytes held)
  unfolding log_code log_after
  other_figures n = rw (ne_eqb _ _ n) (refl, refl)

  pub figures_told : length held ≡ 9 → (found : Result Log NotALog) → found ≡ checked bytes → {r : ℕ} {held' : List ℕ}
      → (r ≡ check_code found) × (held' ≡ log_figures found held) → (r ≡ log_code bytes held) × (held' ≡ log_after bytes held)
  unfolding log_code log_after
  figures_told nine found e told = rw (eq-eqb _ _ nine, ← e) told

  -- a line, with fields of seven places or not
  pub other_fields : (length held ≡ 7 → ⊥) → (2 ≡ one_code bytes held) × (held ≡ one_fields bytes held)
  unfolding one_code one_fields
  other_fields n = rw (ne_eqb _ _ n) (refl, refl)

  pub fields_told : length held ≡ 7 → (found : LogLine) → found ≡ (entry_of bytes).line → {r : ℕ} {held' : List ℕ}
      → (r ≡ line_code found) × (held' ≡ line_fields found held) → (r ≡ one_code bytes held) × (held' ≡ one_fields bytes held)
  unfolding one_code one_fields
  fields_told seven found e told = rw (eq-eqb _ _ seven, ← e) told
