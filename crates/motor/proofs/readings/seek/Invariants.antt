-- Right because each turn is a step of the definition, which has as many steps left as the loop has turns.
use Rattle.std.proofs.Common.{◌≡◌, ◌≤◌, ◌-◌}
use Rattle.motor.specs.Limits.{most_readings}
use Rattle.motor.specs.Readings.{seek_from, seek_of}
use Rattle.motor.proofs.readings.seek.Given as goal

abbrev pub invariant-loop : goal.invariant-loop
invariant-loop l = (l.p ≤ most_readings) × (seek_from (most_readings - l.counter) l.rs.records l.id l.p ≡ seek_of l.rs l.id)
