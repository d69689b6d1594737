-- What a run without losses reports; 02 does not ask for it.
use Rattle.std.specs.Prelude.{true, ◌↔◌, ◌≡◌, ℕ, ◌<◌, pos}
use Rattle.base.specs.Numbers.{dial_modulus}
use Rattle.rules.specs.declared.Head.{Head}
use Rattle.rules.specs.Opening.{head_ok}
use Rattle.berth.specs.Run.{true_total, report_of}

-- with a loss rate of 0 the difference is 0, and the state is 0 exactly when the true total is below 100,000,000
pub record Lossless (h : Head) (seed : ℕ) : Type 0 where
  pub difference : (report_of h seed 0).difference ≡ pos 0
  pub state : ((report_of h seed 0).state ≡ 0) ↔ (true_total h seed 0 < dial_modulus)

-- of every run under a good head; proved by `lossless`
abbrev pub WithoutLosses : Type 0
WithoutLosses = (h : Head) (seed : ℕ) → head_ok h ≡ true → Lossless h seed
