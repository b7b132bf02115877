-- Right because a frame that isn't extended, or is a read reply, is 13, 13 and 7 are tested first, and a frame that passes is counted and tells.
use Rattle.motor.proofs.Receiving.{state-heard-by}
use Rattle.motor.proofs.quiet.hear_state.Goals as goal

pub returns-in-Ok : goal.returns-in-Ok
returns-in-Ok c = let a = c.args in
    rw (state-heard-by a.s a.frame a.now, ← c.ext_id_parts-parts.ensures, ← c.is_quiet-quiet.ensures, ← c.frame_admitted.ensures, c.in-Ok.is, ← c.counted_at.ensures, ← c.taken_by.ensures)

pub returns-in-Err : goal.returns-in-Err
returns-in-Err c = let a = c.args in
    rw (state-heard-by a.s a.frame a.now, ← c.ext_id_parts-parts.ensures, ← c.is_quiet-quiet.ensures, ← c.frame_admitted.ensures, c.in-Err.is)
