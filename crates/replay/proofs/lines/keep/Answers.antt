-- Right because the bytes after the last LF are moved to the front; where they are the whole buffer they stand there.
use Rattle.std.proofs.Common.{arith}
use Rattle.replay.proofs.Keeping.{keeps-first, keeps-moved}
use Rattle.replay.proofs.lines.keep.Goals as goal

pub returns-then-count-eq-BUFFER : goal.returns-then-count-eq-BUFFER
returns-then-count-eq-BUFFER c =
    (keeps-first _ _ _ c.requires.0 c.requires.1 (omega arith) c.if-count-eq-BUFFER.true, omega arith)

pub returns : goal.returns
returns c =
    (rw c.copy_within.ensures.after (keeps-moved _ _ _ c.requires.0 c.requires.1 (omega arith) (omega (arith, c.requires.1, c.if-count-eq-BUFFER.false))), omega (arith, c.requires.1, c.if-count-eq-BUFFER.false))
