-- Right because the row that is found tells the name, and no other id has one (proofs/ParameterTable.antt).
use Rattle.codec.specs.Names.{length_in}
use Rattle.codec.proofs.ParameterTable.{names}
use Rattle.codec.proofs.parameter_names.parameter_name.Goals as goal

pub returns-in-Some : goal.returns-in-Some
returns-in-Some c = rw (← names c.args.id, ← c.parameter_row.ensures, c.in-Some.is) c.name_in.ensures

pub returns-in-None : goal.returns-in-None
unfolding length_in
returns-in-None c = rw (← names c.args.id, ← c.parameter_row.ensures, c.in-None.is) c.name_in-in-None.ensures
