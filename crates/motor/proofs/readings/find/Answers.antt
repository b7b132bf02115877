-- Right because the record at the place of id is what is found, where it holds id.
use Rattle.std.proofs.Common.{◌≡◌, ◌∙◌, rules, option_map}
use Rattle.motor.proofs.ReadingsClauses.{find-both}
use Rattle.motor.proofs.Sites.{found-held}
use Rattle.motor.proofs.readings.find.Goals as goal

pub returns : goal.returns
returns c =
    let m : c.map.result ≡ option_map (λ i. c.site_of-site.result.there.held) c.holder_in.result = search rules in
    let b = find-both c.args.rs c.args.id _ (m ∙ found-held _ _ _ c.site_of-site.ensures.0 _ c.holder_in.ensures.is) in
    record { is = b.0; means = b.1 }
