use Rattle.std.proofs.Common.{arith}
use Rattle.text.proofs.Putting.{put-nil, put_both, decimal-none, decimal-last, decimal-more}
use Rattle.text.proofs.put.+put_decimal_in.Goals as goal

pub returns-then-k-eq0 : goal.returns-then-k-eq0
returns-then-k-eq0 t c = rw (decimal-none _ _ c.if-k-eq0.true) (put-nil _ _)

pub returns-then-n-lt10 : goal.returns-then-n-lt10
returns-then-n-lt10 t c = rw (decimal-last c.args.k c.args.n c.if-k-eq0.false c.if-n-lt10.true, ← c.glyph.ensures) c.put_byte.ensures

pub returns : goal.returns
returns t c =
    rw (decimal-more c.args.k c.args.n c.if-k-eq0.false (omega arith), ← c.glyph-2.ensures) (put_both c.put_decimal_in-next.ensures c.put_byte-2.ensures)
