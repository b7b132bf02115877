use Rattle.text.proofs.Putting.{put-nil, put_both, digits-none, digits_more}
use Rattle.text.proofs.put.+put_digits.Goals as goal

pub returns-then-k-eq0 : goal.returns-then-k-eq0
returns-then-k-eq0 g t c = rw (digits-none g.row.BASE c.args.k c.args.n c.if-k-eq0.true) (put-nil _ _)

pub returns : goal.returns
returns g t c =
    rw (digits_more g.row.BASE c.args.k c.args.n c.if-k-eq0.false, ← c.glyph.ensures) (put_both c.put_digits-next.ensures c.put_byte.ensures)
