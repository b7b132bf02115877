-- Right because what is counted, and what is left to count, stay the same together; and at most one more is counted in each turn.
use Prim.Native.Nat.{◌+◌, ◌-◌, ◌≤◌}
use mathlib.Core.Path.{◌≡◌}
use Rattle.station_abi.specs.Frames.{taken_from}
use Rattle.station_abi.proofs.frames.frames_by_value.Given as goal

abbrev pub invariant-loop-count : goal.invariant-loop-count
invariant-loop-count l =
    (l.taken ≤ l._count) × (l.taken + taken_from l.motors l.kind l.parameter l.st l.id (l.times - l._count) ≡ taken_from l.motors l.kind l.parameter l.initial.st 1 l.times)
