-- `filling::play_line`: an opening leaves the lists.
use mathlib.Core.Path.{refl}
use Rattle.text_log.specs.Log.{item_in}
use Rattle.play.specs.Playing.{item_code, after_item}
use Rattle.play.proofs.filling.play_line.Goals as goal

pub returns-in-Open-clause-told : goal.returns-in-Open-clause-told
unfolding item_code after_item item_in
returns-in-Open-clause-told c = λ limits. rw c.in-Open.is (refl, refl)
