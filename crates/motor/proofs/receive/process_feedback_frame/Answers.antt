-- Right because a read reply concerns state and readings, any other frame the state alone (Editing, Receiving).
use Rattle.motor.proofs.Editing.{heard-read}
use Rattle.motor.proofs.LoneReceiving.{heard-both}
use Rattle.motor.proofs.Receiving.{read-is, heard-quiet}
use Rattle.motor.proofs.receive.process_feedback_frame.Goals as goal

pub returns-then-is_read : goal.returns-then-is_read
returns-then-is_read c = let a = c.args in
    let t = read-is a.frame _ _ _ c.ext_id_parts-parts.ensures c.is_read.ensures c.if-is_read.true in
    let b = heard-both a.m a.frame a.now _ (rw (heard-read a.m a.frame a.now t, ← c.hear_read-h.ensures.0, ← c.edited_by-readings.ensures)) in
    record { is = b.0; means = b.1 }

pub returns : goal.returns
returns c = let a = c.args in
    let t = read-is a.frame _ _ _ c.ext_id_parts-parts.ensures c.is_read.ensures c.if-is_read.false in
    let b = heard-both a.m a.frame a.now _ (rw (heard-quiet a.m a.frame a.now t, ← c.hear_state-h.ensures)) in
    record { is = b.0; means = b.1 }
