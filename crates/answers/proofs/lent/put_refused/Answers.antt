-- Right because a refusal has 51 bytes at most, so that its own buffer has room for all of it.
use Rattle.std.proofs.Common.{arith}
use Rattle.text.proofs.Putting.{put_copied}
use Rattle.answers.proofs.Lengths.{refused-short}
use Rattle.answers.proofs.lent.put_refused.Goals as goal

pub returns : goal.returns
returns c =
    let short = (refused-short c.args.refusal).fits in
    put_copied c.new-text.ensures c.put_refused.ensures c.as_bytes.ensures (omega (arith, short)) c.put_bytes.ensures
