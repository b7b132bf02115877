-- Right because the text put is that of the numbers that the loop has passed.
use Rattle.std.proofs.Common.{◌≡◌}
use Rattle.vectors.specs.Text.{fields_upto}
use Rattle.text.specs.Put.{put}
use Rattle.vectors.proofs.fields.put_fields.Given as goal

abbrev pub invariant-loop-i : goal.invariant-loop-i
invariant-loop-i g l = l.out ≡ put l.fn.out (fields_upto l.v l.shape l.i)
