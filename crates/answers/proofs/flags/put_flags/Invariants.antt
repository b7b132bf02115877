-- Right because the text put is that of the flags that the loop has passed, and any says whether one of them is set.
use Rattle.std.proofs.Common.{◌≡◌}
use Rattle.text.specs.Put.{put}
use Rattle.answers.specs.Flags.{named, any_upto, names_upto}
use Rattle.answers.proofs.flags.put_flags.Given as goal

abbrev pub invariant-loop-set : goal.invariant-loop-set
invariant-loop-set g l = (l.out ≡ put l.fn.out (names_upto (named l.flags) l.set-index)) × (l.any ≡ any_upto (named l.flags) l.set-index)
