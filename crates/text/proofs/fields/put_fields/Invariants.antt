-- Right because the text put is that of the numbers that the loop has passed.
use Rattle.std.proofs.Common.{length}
use Rattle.text.specs.Put.{Put}
use Rattle.text.specs.Fields.{fields_upto}
use Rattle.text.proofs.fields.put_fields.Given as goal

abbrev pub invariant-loop-n : goal.invariant-loop-n
invariant-loop-n l = Put l.fn.out l.at (fields_upto l.fn.v l.shape (length l.yielded)) l.out l.next
