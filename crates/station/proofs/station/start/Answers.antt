-- Right because it is the call on its own places; its meaning is start-means.
use Rattle.station.proofs.Meanings.{start-means}
use Rattle.station.proofs.station.start.Goals as goal

pub returns-clause-means : goal.returns-clause-means
returns-clause-means c = λ s x. rw (c.called.ensures, c.asks.ensures) (start-means _ s x _ _ _)
