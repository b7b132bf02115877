-- Right because what is still to be heard, after what was answered, stays the whole read heard (Going).
use Rattle.std.proofs.Common.{◌-◌, length}
use Rattle.replay.proofs.Going.{Going}
use Rattle.replay.proofs.turns.take_lines.Given as goal

abbrev pub invariant-loop-end : goal.invariant-loop-end
invariant-loop-end l = Going l.fn.motors l.inp l.motors l.from l.out

abbrev pub decreases-loop-end : goal.decreases-loop-end
decreases-loop-end l = length l.inp - l.from
