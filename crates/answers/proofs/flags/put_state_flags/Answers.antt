-- Right because the flags' bits are the definition's.
use Rattle.answers.proofs.Named.{state_named}
use Rattle.answers.proofs.flags.put_state_flags.Goals as goal

pub returns : goal.returns
returns g c = rw (state_named c.args.s) c.put_flags.ensures
