-- Right because what the words left go on to from v is what all the words are.
use Rattle.std.proofs.Common.{◌≡◌, ◌-◌, length}
use Rattle.session.specs.Arguments.{read_on, no_numbers}
use Rattle.session.proofs.arguments.arguments.Given as goal

abbrev pub invariant-loop-i : goal.invariant-loop-i
invariant-loop-i l = (length l.v ≡ 8) × (read_on l.line l.shape l.v l.i (length l.shape - l.i) ≡ read_on l.line l.shape no_numbers 0 (length l.shape))
