-- Right because the record that the search gives is blanked and linked out.
use Rattle.motor.proofs.ReadingsClauses.{drop-both}
use Rattle.motor.proofs.Sites.{dropped-none, dropped-some}
use Rattle.motor.proofs.readings.drop_id.Goals as goal

pub returns-in_default : goal.returns-in_default
returns-in_default c =
    let b = drop-both _ _ _ (dropped-none _ _ _ c.site_of-site.ensures.0 c.in_default.ensures.is) in
    record { is = b.0; means = b.1 }

pub returns : goal.returns
returns c =
    let b = drop-both _ _ _ (rw c.free_record.ensures (dropped-some _ _ _ c.site_of-site.ensures.0 _ c.in-Some.ensures.is)) in
    record { is = b.0; means = b.1 }
