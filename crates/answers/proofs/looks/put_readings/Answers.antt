use Rattle.std.proofs.Common.{◌≡◌, length-take, min, arith, add-one}
use Rattle.std.proofs.lemmas.List.{get_or-take}
use Rattle.motor.specs.Limits.{most_readings}
use Rattle.motor.specs.Readings.{no_entry}
use Rattle.text.proofs.Putting.{put_nil, put_then}
use Rattle.answers.specs.Looks.{readings_upto}
use Rattle.answers.proofs.looks.put_readings.Goals as goal

pub loop-entry-init : goal.loop-entry-init
unfolding readings_upto
loop-entry-init g c = rw put_nil

pub loop-entry-preserved : goal.loop-entry-preserved
unfolding readings_upto
loop-entry-preserved g c = let e = get_or-take c.min-held.result c.args.readings.entries c.loop-entry.entry-index no_entry (omega arith) in rw add-one (grind (arith, put_then, e))

pub returns : goal.returns
returns g c = let e : c.loop-entry.entry-index ≡ min c.args.readings.count most_readings = omega (arith, length-take c.min-held.result c.args.readings.entries) in cc
