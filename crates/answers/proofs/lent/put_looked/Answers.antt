-- Right because a look has 3,900 bytes at most, so that its own buffer has room for all of it.
use Rattle.std.proofs.Common.{arith}
use Rattle.text.proofs.Putting.{put_copied}
use Rattle.answers.proofs.Lengths.{looked-fits}
use Rattle.answers.proofs.lent.put_looked.Goals as goal

pub returns : goal.returns
returns c =
    let short = (looked-fits c.args.looked).fits in
    put_copied c.new-text.ensures c.put_looked.ensures c.as_bytes.ensures (omega (arith, short)) c.put_bytes.ensures
