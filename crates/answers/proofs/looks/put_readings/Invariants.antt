-- Right because the text put is that of the readings that the loop has passed.
use Rattle.std.proofs.Common.{◌≡◌}
use Rattle.text.specs.Put.{put}
use Rattle.answers.specs.Looks.{readings_upto}
use Rattle.answers.proofs.looks.put_readings.Given as goal

abbrev pub invariant-loop-entry : goal.invariant-loop-entry
invariant-loop-entry g l = l.out ≡ put l.fn.out (readings_upto l.fn.readings.entries l.entry-index)
