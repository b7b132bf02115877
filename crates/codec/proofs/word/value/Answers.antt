-- Right because a NaN's pattern gives the one NaN, and any other pattern its own value.
use Rattle.codec.proofs.Patterns.{nan-word, other_word}
use Rattle.codec.proofs.word.value.Goals as goal

pub float_from_bits-result : goal.float_from_bits-result
float_from_bits-result c = other_word c.args.w.bits c.if-bits-gt2139095040.false

pub returns-then-bits-gt2139095040 : goal.returns-then-bits-gt2139095040
returns-then-bits-gt2139095040 c = nan-word c.args.w.bits c.if-bits-gt2139095040.true
