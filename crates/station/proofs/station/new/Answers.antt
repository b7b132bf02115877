-- Right because every place is free; its meaning is new-both.
use Rattle.station.specs.Stations.{new_station}
use Rattle.station.proofs.Meanings.{new-both}
use Rattle.station.proofs.station.new.Goals as goal

pub returns-clause-is : goal.returns-clause-is
unfolding new_station
returns-clause-is c = (new-both _ (rw c.free_motor-motors.ensures)).0

pub returns-clause-means : goal.returns-clause-means
unfolding new_station
returns-clause-means c = (new-both _ (rw c.free_motor-motors.ensures)).1
