-- Right because each turn hands in the next motor's reply.
use Prim.Native.Nat.{◌+◌, ◌-◌, ◌≤◌}
use mathlib.Core.Path.{◌≡◌}
use Rattle.station_abi.specs.Loaded.{read_by_all}
use Rattle.station_abi.proofs.loaded.read_by_all.Given as goal

abbrev pub invariant-loop-id : goal.invariant-loop-id
invariant-loop-id l = (l.id ≤ l.motors + 1) × (l.after ≡ read_by_all l.initial.after (l.id - 1) l.parameter)
