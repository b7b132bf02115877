-- Right because the motors lent to each call come back as it left them, one frame less is left after each turn, and what is counted and
-- what is left to count stay the same together; at most one more is counted in each turn.
use Prim.Native.Nat.{◌+◌, ◌≤◌}
use mathlib.Core.Path.{◌≡◌}
use Rattle.station_abi.specs.Beats.{counted_by}
use Rattle.station_abi.proofs.beats.frames_in_place.Given as goal

abbrev pub invariant-loop-count : goal.invariant-loop-count
invariant-loop-count l =
    (l._count + l.b.left ≡ l.times) × (l.b.passed ≤ l._count) × (counted_by l.st l.b ≡ counted_by l.initial.st l.initial.b)
