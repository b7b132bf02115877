-- Right because a value that equals itself is no NaN, and its bits are its word.
use lib.Ieee.Compare.{differs_from_itself}
use lib.Ieee.{to_bits}
use lib.Dec.{T}
use mathlib.Core.Path.{subst, sym}
use Rattle.codec.proofs.Cut.{equals_itself}
use Rattle.codec.proofs.word.word_of.Goals as goal

pub returns-then-x : goal.returns-then-x
unfolding to_bits
returns-then-x c = rw (differs_from_itself c.args.x (subst T (sym c.if-x.true) tt))

pub float_to_bits-result : goal.float_to_bits-result
float_to_bits-result c = equals_itself c.args.x c.if-x.false
