-- Right because each turn lists one more entry of the walk, and the rest stays blank.
use Rattle.motor.proofs.Walks.{Walked}
use Rattle.motor.proofs.readings.listed.Given as goal

abbrev pub invariant-loop-count : goal.invariant-loop-count
invariant-loop-count l = Walked l.rs l.entries l.count l.n
