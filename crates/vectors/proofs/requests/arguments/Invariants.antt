-- Right because v holds the arguments of the letters that the loop has passed, and the rest can't mend one that isn't good (proofs/Reading.antt).
use Rattle.std.proofs.Common.{◌≡◌, Some}
use Rattle.vectors.specs.Requests.{arguments_upto}
use Rattle.vectors.proofs.requests.arguments.Given as goal

abbrev pub invariant-loop-i : goal.invariant-loop-i
invariant-loop-i l = arguments_upto l.line l.shape l.i ≡ Some l.v
