-- Right because a word and 1 is not zero exactly where bit 0 is set.
use Rattle.codec.proofs.Masks.{masked-flag}
use Rattle.codec.proofs.faults.warning_flags.Goals as goal

pub returns : goal.returns
returns c = rw (masked-flag c.args.warning_raw 0)
