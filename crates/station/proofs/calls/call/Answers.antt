-- Right because each call is the lent one of its kind.
use Rattle.std.proofs.Common.{rules, refl, sym}
use Rattle.station.specs.Stations.{call_in}
use Rattle.station.proofs.Lending.{said}
use Rattle.station.proofs.calls.call.Goals as goal

pub returns-in-Look : goal.returns-in-Look
unfolding call_in
returns-in-Look c =
    rw (c.in-Look.is, c.reply.ensures, said _ c.told-motors _ _ c.ok_or.result (sym c.find_motor-place.ensures.is) (λ i p. search rules) (λ p. search rules)) (refl, refl)
