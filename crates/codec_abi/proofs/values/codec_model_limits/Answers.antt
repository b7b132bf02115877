-- Right because each arm gives what the codec answers: the five limits, or zeros and the refusal.
use mathlib.Core.Path.{refl}
use lib.Ieee.{of_int, of_bits}
use Rattle.codec_abi.proofs.values.codec_model_limits.Goals as goal

pub returns-in-Err : goal.returns-in-Err
unfolding of_int of_bits
returns-in-Err c = rw (← c.model_limits.ensures, c.in-Err.is) (c.number.ensures, refl)
