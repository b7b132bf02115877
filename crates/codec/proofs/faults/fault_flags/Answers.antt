-- Right because a word and the mask of bit k is not zero exactly where bit k is set.
use Rattle.codec.proofs.Masks.{masked-flag}
use Rattle.codec.proofs.faults.fault_flags.Goals as goal

pub returns : goal.returns
returns c = let n = c.args.fault_raw in
    rw (masked-flag n 16, masked-flag n 14, masked-flag n 9, masked-flag n 8, masked-flag n 7, masked-flag n 5, masked-flag n 4, masked-flag n 3, masked-flag n 2, masked-flag n 1, masked-flag n 0)
