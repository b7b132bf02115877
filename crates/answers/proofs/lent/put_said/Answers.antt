-- Right because what is said has 112 bytes at most, so that its own buffer has room for all of it.
use Rattle.std.proofs.Common.{arith}
use Rattle.text.proofs.Putting.{put_copied}
use Rattle.answers.proofs.Lengths.{said_fits}
use Rattle.answers.proofs.lent.put_said.Goals as goal

pub returns : goal.returns
returns c =
    let short = (said_fits c.args.said c.args.frame c.args.res c.args.time).fits in
    put_copied c.new-text.ensures c.put_said.ensures c.as_bytes.ensures (omega (arith, short)) c.put_bytes.ensures
