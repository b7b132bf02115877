-- Right because the lines passed end before place n, and each is at least its LF.
use Rattle.std.proofs.Common.{◌≤◌, ◌-◌}
use Rattle.vectors.proofs.lines.whole_lines.Given as goal

abbrev pub invariant-loop-end : goal.invariant-loop-end
invariant-loop-end g l = l.from ≤ l.n

abbrev pub decreases-loop-end : goal.decreases-loop-end
decreases-loop-end g l = l.n - l.from
