-- Right because the flags' bits are the definition's.
use Rattle.answers.proofs.Named.{fault_named}
use Rattle.answers.proofs.flags.put_fault_flags.Goals as goal

pub returns : goal.returns
returns g c = rw (fault_named c.args.f) c.put_flags.ensures
