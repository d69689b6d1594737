-- `reading::tested_at`: a delivery that is not read, or the line read.
use Rattle.play.proofs.Stepping.{passing_delivery}
use Rattle.play.proofs.reading.tested_at.Goals as goal

pub returns-in-Some : goal.returns-in-Some
returns-in-Some c = passing_delivery c.in-Some.ensures
