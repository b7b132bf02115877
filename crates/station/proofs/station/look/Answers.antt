-- Right because it is the look on its own places; its meaning is look-means.
use Rattle.station.proofs.Meanings.{look-means}
use Rattle.station.proofs.station.look.Goals as goal

pub returns-clause-means : goal.returns-clause-means
returns-clause-means c = λ s x. rw c.look.ensures (look-means _ s x _)
