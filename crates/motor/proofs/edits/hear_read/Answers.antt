-- Right because any other frame is 13, 13 and 7 are tested first, the status before there is a put, and a put that finds no room is 15.
use Rattle.std.proofs.Common.{refl, arith, eq-eqb, ne_eqb}
use Rattle.motor.proofs.Editing.{read-heard-at}
use Rattle.motor.proofs.edits.hear_read.Goals as goal

pub returns-in-Err : goal.returns-in-Err
returns-in-Err c = let x = c.args in
    rw (
      read-heard-at x.m x.frame x.now _ _ _ c.ext_id_parts-parts.ensures c.is_reply-reply.ensures c.frame_admitted.ensures,
      c.in-Err.is,
      c.read_kept.ensures,
    )
    (refl, omega arith, omega arith)

pub returns-then-status-ne0 : goal.returns-then-status-ne0
returns-then-status-ne0 c = let x = c.args in
    rw (
      read-heard-at x.m x.frame x.now _ _ _ c.ext_id_parts-parts.ensures c.is_reply-reply.ensures c.frame_admitted.ensures,
      c.in_default.is,
      ← c.status_in-status.ensures,
      ne_eqb _ _ c.if-status-ne0.true,
      ← c.read_id-id.ensures,
      ← c.counted_at-state.ensures,
      c.read_kept-then-status-ne0.ensures,
    )
    (refl, omega arith, omega arith)

pub returns : goal.returns
returns c = let x = c.args in
    rw (
      read-heard-at x.m x.frame x.now _ _ _ c.ext_id_parts-parts.ensures c.is_reply-reply.ensures c.frame_admitted.ensures,
      c.in_default.is,
      ← c.status_in-status.ensures,
      eq-eqb _ _ c.if-status-ne0.false,
      ← c.read_id-id.ensures,
      ← c.counted_at-state.ensures,
      ← c.read_stored.ensures,
      ← c.put_edit-put.ensures.is,
    )
    (refl, c.put_edit-put.ensures.inside.0, c.put_edit-put.ensures.inside.1)
