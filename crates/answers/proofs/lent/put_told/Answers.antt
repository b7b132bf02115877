-- Right because the text of a test has 51 bytes at most, so that its own buffer has room for all of it.
use Rattle.std.proofs.Common.{arith}
use Rattle.text.proofs.Putting.{put_copied}
use Rattle.answers.proofs.Lengths.{told-fits}
use Rattle.answers.proofs.lent.put_told.Goals as goal

pub returns : goal.returns
returns c =
    let short = (told-fits c.args.said).fits in
    put_copied c.new-text.ensures c.put_told.ensures c.as_bytes.ensures (omega (arith, short)) c.put_bytes.ensures
