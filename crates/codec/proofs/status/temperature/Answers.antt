-- Right because the operation is the definition's, and 0.1 is the definition's float.
use lib.Ieee.{of_int, of_bits}
use borrow.Author.Rules.{rules}
use Rattle.codec.specs.Status.{temperature_of}
use Rattle.codec.proofs.status.temperature.Goals as goal

pub returns : goal.returns
unfolding temperature_of of_int of_bits
returns c = search rules
