-- Right because it is the call on its own places; its meaning is frame-means.
use Rattle.station.proofs.Meanings.{frame-means}
use Rattle.station.proofs.station.frame.Goals as goal

pub returns-clause-means : goal.returns-clause-means
returns-clause-means c = λ s x. rw c.called.ensures (frame-means _ s x _ _)
