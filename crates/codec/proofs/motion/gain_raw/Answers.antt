-- Right because each operation is the definition's, and its literals are the definition's floats.
use lib.Ieee.{of_int, of_bits}
use Rattle.codec.specs.Motion.{gain_raw}
use Rattle.codec.proofs.motion.gain_raw.Goals as goal

pub returns : goal.returns
unfolding gain_raw of_int of_bits
returns c = rw (c.trunc_u16.ensures, c.clamp.ensures)
