-- Right because what is kept leaves room for a byte at least.
use Rattle.std.proofs.Common.{◌<◌}
use Rattle.vectors.proofs.lines.run.Given as goal

abbrev pub invariant-loop : goal.invariant-loop
invariant-loop g l = l.left.kept < 4096
