-- Right because each turn registers the next motor.
use Prim.Native.Nat.{◌+◌, ◌-◌, ◌≤◌}
use mathlib.Core.Path.{◌≡◌}
use Rattle.station_abi.specs.Loaded.{registered_of}
use Rattle.station_abi.proofs.loaded.registered.Given as goal

abbrev pub invariant-loop-id : goal.invariant-loop-id
invariant-loop-id l = (l.id ≤ l.motors + 1) × (l.st ≡ registered_of (l.id - 1))
