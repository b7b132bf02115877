-- Right because its edit stored gives the readings that the definition gives (Editing).
use Rattle.motor.proofs.Editing.{edit-puts}
use Rattle.motor.proofs.ReadingsClauses.{put_both}
use Rattle.motor.proofs.readings.put.Goals as goal

pub returns : goal.returns
returns c =
    let a = c.args in
    let b = put_both _ _ _ _ (rw (← edit-puts a.rs a.id a.held, ← c.put_edit-put.ensures.is, c.edited_by.ensures)) in
    record { is = b.0; means = b.1 }
