-- Right because each operation is the definition's, and its literals are the definition's floats.
use lib.Ieee.{of_int, of_bits}
use borrow.Author.Rules.{rules}
use Rattle.codec.specs.Status.{status_value}
use Rattle.codec.proofs.status.status_value.Goals as goal

pub returns : goal.returns
unfolding status_value of_int of_bits
returns c = search rules
