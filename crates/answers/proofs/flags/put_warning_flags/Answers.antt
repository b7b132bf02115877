-- Right because the flags' bits are the definition's.
use Rattle.answers.proofs.Named.{warning_named}
use Rattle.answers.proofs.flags.put_warning_flags.Goals as goal

pub returns : goal.returns
returns g c = rw (warning_named c.args.w) c.put_flags.ensures
