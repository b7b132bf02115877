-- Right because each turn leads one more record on, and the records at the end are those of the definition, one by one.
use Rattle.motor.proofs.FirstChain.{Begun}
use Rattle.motor.proofs.readings.empty.Given as goal

abbrev pub invariant-loop-i : goal.invariant-loop-i
invariant-loop-i l = Begun l.records l.i
