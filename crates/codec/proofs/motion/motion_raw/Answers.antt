-- Right because each operation is the definition's, and its literals are the definition's floats.
use lib.Ieee.{of_int, of_bits}
use Rattle.codec.specs.Motion.{motion_raw}
use Rattle.codec.proofs.motion.motion_raw.Goals as goal

pub returns : goal.returns
unfolding motion_raw of_int of_bits
returns c = rw (c.trunc_u16.ensures, c.clamp.ensures)
