-- Right because it is the call on its own places; its meaning is step-means.
use Rattle.station.proofs.Meanings.{step-means}
use Rattle.station.proofs.station.step.Goals as goal

pub returns-clause-means : goal.returns-clause-means
returns-clause-means c = λ s x. rw (c.called.ensures, c.asks.ensures) (step-means _ s x _ _)
