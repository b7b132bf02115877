-- Right because each turn has one more reading handed in by every motor.
use Prim.Native.Nat.{◌+◌, ◌-◌, ◌≤◌}
use mathlib.Core.Path.{◌≡◌}
use Rattle.station_abi.specs.Loaded.{loaded_to}
use Rattle.station_abi.proofs.loaded.loaded.Given as goal

abbrev pub invariant-loop-count : goal.invariant-loop-count
invariant-loop-count l = (l.count ≤ l.held + 1) × (l.st ≡ loaded_to l.motors (l.count - 1))
