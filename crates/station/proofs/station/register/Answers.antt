-- Right because it is the call on its own places; its meaning is register-means.
use Rattle.station.proofs.Meanings.{register-means}
use Rattle.station.proofs.station.register.Goals as goal

pub returns-clause-means : goal.returns-clause-means
returns-clause-means c = λ s x. rw (c.called.ensures, c.asks.ensures, c.model_named-model.ensures) (register-means _ s x _ _ _ _ _)
