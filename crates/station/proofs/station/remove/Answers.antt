-- Right because it is the call on its own places; its meaning is remove-means.
use Rattle.station.proofs.Meanings.{remove-means}
use Rattle.station.proofs.station.remove.Goals as goal

pub returns-clause-means : goal.returns-clause-means
returns-clause-means c = λ s x. rw (c.called.ensures, c.asks.ensures) (remove-means _ s x _ _)
